pub mod Parts
pub mod Answers
pub mod Keeps
pub mod First
