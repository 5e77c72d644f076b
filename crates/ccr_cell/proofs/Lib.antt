pub mod Sums
pub mod Fronts
pub mod Rules
pub mod Moves
pub mod Told
