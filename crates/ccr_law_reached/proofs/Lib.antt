pub mod Places
pub mod SpelledFiles
pub mod InReached
