-- Sessions that open, and parts of files that come, lower the measure.
pub mod Parts
pub mod Hearing
pub mod Coming
