-- Settling, joined over every event and every journal.
pub mod Awaited
pub mod Deliveries
pub mod Lowers
pub mod Nothing
pub mod Events
pub mod Says
