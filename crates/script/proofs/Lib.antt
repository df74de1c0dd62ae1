pub mod Reading
pub mod Stepping
pub mod Pending
pub mod Coming
pub mod Printing
pub mod Turning
pub mod Advancing
pub mod Streaming
