pub mod Outlines
pub mod ScriptLine
pub mod Scripts
pub mod WhenSettled
pub mod WorkedScript
