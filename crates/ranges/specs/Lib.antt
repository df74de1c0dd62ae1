pub mod Beside
pub mod Changes
pub mod Held
pub mod Kept
pub mod Lists
