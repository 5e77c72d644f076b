pub mod Words
pub mod Told
pub mod Joined
pub mod Answers
