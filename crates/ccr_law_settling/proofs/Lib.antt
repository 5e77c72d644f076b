pub mod Measure
pub mod Task
pub mod Fetch
pub mod Left
pub mod Joined
