pub mod Created
pub mod Guards
pub mod NameGuards
pub mod Names
pub mod Patterns
pub mod Routing
