pub mod UtfTests
pub mod FieldLaws
pub mod OperationLaws
pub mod Sameness
