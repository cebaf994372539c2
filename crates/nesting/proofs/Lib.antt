pub mod Reading
pub mod Taken
pub mod Parsed
pub mod Documents
pub mod Names
mod Short
