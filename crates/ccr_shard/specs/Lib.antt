pub mod InFlight
pub mod Sides
pub mod Ends
pub mod Wholes
