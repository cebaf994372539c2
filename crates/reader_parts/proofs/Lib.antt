pub mod Adds
pub mod Steps
