pub mod Binds
pub mod Lookups
