pub mod Steps
pub mod Asking
pub mod Walking
pub mod Fetching
pub mod Joining
pub mod Indexing
pub mod Hearings
