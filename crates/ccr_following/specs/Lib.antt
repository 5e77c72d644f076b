pub mod After
pub mod Ending
pub mod Finished
pub mod Hearings
pub mod Refusals
pub mod Works
