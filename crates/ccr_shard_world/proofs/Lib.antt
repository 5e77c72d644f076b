pub mod Recording
pub mod OnlyMerges
pub mod Asking
pub mod Settling
