pub mod Logs
pub mod Playing
