pub mod Growing
pub mod Hiring
pub mod Lists
