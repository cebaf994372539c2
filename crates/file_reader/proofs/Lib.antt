pub mod First
pub mod Names
pub mod Given
pub mod Steps
pub mod Runs
pub mod Answers
