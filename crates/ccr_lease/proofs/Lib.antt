pub mod Falling
pub mod Ordered
