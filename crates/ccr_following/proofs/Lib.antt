pub mod Answering
pub mod Drawing
pub mod Fetching
pub mod Lifting
pub mod Numbering
pub mod Standing
pub mod Stepping
pub mod Wholeness
