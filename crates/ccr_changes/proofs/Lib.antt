pub mod Runs
pub mod Ages
pub mod Keys
pub mod Firsts
pub mod Takes
pub mod Indexing
