pub mod Prelude
pub mod Place
pub mod Batch
pub mod Exactly
pub mod Grants
pub mod Demand3
