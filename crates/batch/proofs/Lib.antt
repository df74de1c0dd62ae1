pub mod Verdicts
pub mod Ones
pub mod Steps
pub mod Turned
pub mod Commits
pub mod Batched
