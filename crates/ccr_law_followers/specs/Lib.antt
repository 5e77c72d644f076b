pub mod CopyLaws
pub mod Fetches
pub mod TrueCopies
