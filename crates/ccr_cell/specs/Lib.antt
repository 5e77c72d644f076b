pub mod Counts
pub mod Law
pub mod Told
pub mod Passes
