pub mod Degrees
pub mod Exact
pub mod Nearest
pub mod Decimals
