pub mod Bound
pub mod Checked
pub mod Lasts
pub mod Requested
