pub mod Bytes
pub mod Ascii
pub mod Chars
pub mod Options
