pub mod Games
pub mod Planning
pub mod Begun
