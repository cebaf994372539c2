pub mod Tables
pub mod Codes
pub mod Theorem
pub mod Examples
