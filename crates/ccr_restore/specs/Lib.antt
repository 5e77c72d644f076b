pub mod Asks
pub mod Finishing
pub mod Hearing
pub mod Index
pub mod Losing
pub mod Places
pub mod Shown
pub mod Stages
