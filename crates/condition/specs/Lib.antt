pub mod Condition3
pub mod Views
pub mod Nesting
