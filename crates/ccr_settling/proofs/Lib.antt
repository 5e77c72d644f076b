pub mod Serving
pub mod Polled
pub mod Following
pub mod Grounding
pub mod Idleness
