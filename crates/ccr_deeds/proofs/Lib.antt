pub mod Deeding
