pub mod Check
pub mod Readings
