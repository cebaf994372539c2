pub mod Sizes
pub mod Texts
pub mod Rounding
pub mod Reading
pub mod Decimals
