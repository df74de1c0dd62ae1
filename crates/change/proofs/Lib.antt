pub mod Changed
pub mod Hits
pub mod Runs
