pub mod Completeness
pub mod Ends
pub mod Sameness
pub mod Scenes
