pub mod Chunks
pub mod Sessions
