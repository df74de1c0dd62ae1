pub mod Adding
pub mod Digits
pub mod Numbers
