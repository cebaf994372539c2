pub mod Pairs
pub mod Finds
pub mod Takes
pub mod Handles
pub mod Held
pub mod Interns
pub mod Checks
pub mod Words
