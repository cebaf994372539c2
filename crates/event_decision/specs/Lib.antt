pub mod Decision
pub mod Table
