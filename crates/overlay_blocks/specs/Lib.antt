pub mod Blocks
pub mod Sizes
