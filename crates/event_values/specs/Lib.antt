pub mod Value
pub mod Values
