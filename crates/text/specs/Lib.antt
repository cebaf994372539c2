pub mod Char
pub mod Text
pub mod Check
pub mod Escape
