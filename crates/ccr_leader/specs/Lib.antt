pub mod Faults
pub mod Requests
pub mod Waited
pub mod Writing
