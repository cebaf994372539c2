pub mod Raws
pub mod Values
