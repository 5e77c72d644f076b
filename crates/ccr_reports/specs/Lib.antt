pub mod Reports
pub mod Faultless
