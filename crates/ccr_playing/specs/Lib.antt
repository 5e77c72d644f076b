pub mod Codes
pub mod Printed
pub mod Script
pub mod Played
pub mod Tells
pub mod Written
pub mod Runs
pub mod Steps
