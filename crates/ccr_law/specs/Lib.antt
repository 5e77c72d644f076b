pub mod Journals
pub mod Parts
