pub mod Lexing
pub mod Line
pub mod Held
pub mod Plain
