pub mod Flying
pub mod Followed
pub mod Receiving
pub mod Rows
pub mod Sided
pub mod Wholes
