pub mod HandedIn
pub mod Scenes
pub mod Completeness
