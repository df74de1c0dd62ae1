pub mod Cases
pub mod Written
pub mod Reading
