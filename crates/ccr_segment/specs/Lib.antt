pub mod Segment
pub mod Reading
pub mod Index
pub mod Writing
