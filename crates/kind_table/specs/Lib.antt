pub mod Rows
pub mod Words
pub mod Lent
