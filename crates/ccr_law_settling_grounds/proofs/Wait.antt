-- What waits at the leader.
pub mod Alike
pub mod Events
pub mod Leaving
pub mod Messages
pub mod Rows
pub mod Settling
pub mod Staying
