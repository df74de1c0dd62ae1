pub mod Fits
pub mod Joins
pub mod Bad
pub mod Chunks
pub mod Quick
pub mod Spared
pub mod Verdicts
