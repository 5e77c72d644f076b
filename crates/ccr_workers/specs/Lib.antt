pub mod Lists
pub mod Settles
pub mod Lending
