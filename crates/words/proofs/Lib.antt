pub mod Stored
pub mod Moved
pub mod Zeros
pub mod Chunks
