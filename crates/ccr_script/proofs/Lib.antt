pub mod Members
pub mod Digits
pub mod Changes
pub mod Made
pub mod Few
