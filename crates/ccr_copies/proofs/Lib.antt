pub mod Places
pub mod Rows
pub mod Holding
pub mod Progress
pub mod Walking
