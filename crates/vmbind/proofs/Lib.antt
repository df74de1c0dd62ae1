pub mod Answers
pub mod Refills
pub mod Rounds
pub mod Runs
