pub mod Fated
pub mod HandedOut
