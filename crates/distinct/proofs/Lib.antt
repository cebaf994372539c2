pub mod Orders
pub mod Spelled
