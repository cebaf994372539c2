pub mod Refusal
pub mod First
