-- What is left at the followers where nothing may be done: nothing.
pub mod ByNumber
pub mod Outstanding
pub mod Unanswered
pub mod Bootstraps
pub mod Writes
pub mod ActiveReads
pub mod ActivePolls
pub mod ActiveCopies
pub mod Active
pub mod Says
