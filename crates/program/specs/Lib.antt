pub mod Prelude
pub mod Text
pub mod Script
pub mod Lines
pub mod Claims
