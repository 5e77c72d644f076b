pub mod Faults
pub mod Processed
pub mod Places
pub mod Leased
pub mod Changes
pub mod Views
