pub mod Purpose
pub mod Count
pub mod Wait
pub mod Work
