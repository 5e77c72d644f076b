pub mod Fronts
pub mod Goes
