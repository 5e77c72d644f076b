pub mod Expiries
pub mod NoteOrder
pub mod TrueLeases
