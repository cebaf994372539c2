pub mod Integer
pub mod Bounded
