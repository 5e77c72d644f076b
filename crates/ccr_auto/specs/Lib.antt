pub mod Answers
pub mod Follow
pub mod Patterns
