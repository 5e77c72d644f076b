pub mod Grounds
pub mod Retaining
pub mod Moving
pub mod RetainedLaws
