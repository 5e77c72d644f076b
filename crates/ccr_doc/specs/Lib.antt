pub mod Fields
pub mod Scalars
pub mod Sources
pub mod Words
