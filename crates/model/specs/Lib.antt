pub mod Record
pub mod Act
pub mod Swap
