pub mod InSyncSet
pub mod Members
