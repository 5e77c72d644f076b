pub mod Ranks
pub mod Finds
pub mod Joined
pub mod Printed
