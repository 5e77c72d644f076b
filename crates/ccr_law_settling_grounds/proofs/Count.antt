-- What is told and known of the leader's count.
pub mod Within
pub mod Answering
pub mod Tasks
pub mod Bootstraps
pub mod Followers
pub mod Rows
pub mod Events
