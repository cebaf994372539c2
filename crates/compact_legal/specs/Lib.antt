pub mod Judge
pub mod Whole
