-- Ticks, and answers to reads, lower the measure.
pub mod TickReads
pub mod TickWrites
pub mod TickFills
pub mod Ticks
pub mod ReplyReads
pub mod ReplyFills
pub mod Replies
pub mod ReplyRows
pub mod ReplyStops
pub mod ReplySays
