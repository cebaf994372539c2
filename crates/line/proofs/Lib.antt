pub mod Lines
pub mod Decimals
