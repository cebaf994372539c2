pub mod Texts
pub mod Answers
pub mod Keeps
pub mod Onward
pub mod First
