pub mod Members
mod Covered
mod Kept
