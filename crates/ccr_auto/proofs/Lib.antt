pub mod Falling
pub mod Markers
pub mod Matching
pub mod Ordered
