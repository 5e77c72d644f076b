pub mod Ids
pub mod Operation
pub mod Fields
pub mod Sameness
pub mod Spelling
pub mod Reading
