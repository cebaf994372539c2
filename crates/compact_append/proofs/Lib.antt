pub mod Writes
pub mod Joins
