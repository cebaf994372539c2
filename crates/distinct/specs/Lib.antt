pub mod Distinct
pub mod Check
