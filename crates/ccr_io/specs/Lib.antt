pub mod Prefix
pub mod Memory
pub mod Adapter
