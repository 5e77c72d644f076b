pub mod Kinds
pub mod Message
pub mod Spelling
pub mod Reading
