pub mod Answers
pub mod Chains
pub mod Onward
pub mod Runs
pub mod First
