pub mod Characters
pub mod Digits
pub mod Entities
pub mod Steps
pub mod Kept
