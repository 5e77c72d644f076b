pub mod Cores
pub mod Begun
