pub mod Purposes
pub mod KnownCounts
pub mod Parked
pub mod Pending
