pub mod Walks
pub mod Epochs
pub mod Leading
pub mod Grounds
pub mod Whole
pub mod Theorem
