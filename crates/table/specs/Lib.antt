pub mod Halving
pub mod Held
pub mod Kept
pub mod Places
pub mod Splice
