pub mod Cuts
pub mod Orders
pub mod Ranges
pub mod Tiling
