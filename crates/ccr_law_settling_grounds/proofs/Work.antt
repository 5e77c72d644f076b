-- What a follower has outstanding.
pub mod Bootstraps
pub mod Tasks
pub mod Rows
pub mod Events
