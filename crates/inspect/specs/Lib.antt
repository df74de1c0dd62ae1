pub mod Bad
pub mod Joined
pub mod Part
pub mod Rows
