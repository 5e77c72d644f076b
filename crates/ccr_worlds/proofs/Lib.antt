pub mod Endings
pub mod Fates
pub mod Making
pub mod Quiet
pub mod Searched
pub mod Slots
pub mod Turns
