pub mod Prelude
pub mod Pages
pub mod Claims
