pub mod Recorded
pub mod Runs
pub mod Fates
