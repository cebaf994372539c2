pub mod Handles
pub mod Held
