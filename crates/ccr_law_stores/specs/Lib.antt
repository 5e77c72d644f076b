pub mod TrueStores
pub mod Spelled
pub mod Searchable
pub mod SearchPlaces
pub mod ShardsJoined
