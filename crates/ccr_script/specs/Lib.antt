pub mod Grammar
pub mod Kinds
pub mod Checking
pub mod Amounts
pub mod Settings
pub mod Parts
pub mod Commands
pub mod Generated
