pub mod Shown
pub mod Does
pub mod Ordering
pub mod Takes
pub mod Ends
pub mod Keeps
pub mod Indexed
pub mod Reading
