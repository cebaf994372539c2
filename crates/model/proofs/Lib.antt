pub mod Keys
pub mod Swaps
