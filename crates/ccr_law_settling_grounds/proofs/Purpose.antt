-- What each request of a follower is for, and that messages of its number are about that.
pub mod Rows
pub mod Fitting
pub mod Followers
pub mod Ignoring
pub mod Events
pub mod Answering
pub mod Restores
pub mod Tasks
pub mod Worlds
