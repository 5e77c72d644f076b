pub mod UtfTests
pub mod WireFields
pub mod MessageLaws
pub mod WireLoops
pub mod WireAppends
