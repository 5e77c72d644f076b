pub mod Engine
pub mod Faults
