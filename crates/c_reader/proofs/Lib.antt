pub mod Codes
pub mod Fits
pub mod Words
pub mod Coded
