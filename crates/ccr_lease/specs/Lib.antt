pub mod Faults
pub mod Leases
