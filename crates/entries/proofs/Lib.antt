pub mod Sizes
pub mod Parts
pub mod Counts
pub mod Written
pub mod Listing
