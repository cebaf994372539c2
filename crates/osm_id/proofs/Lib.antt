pub mod Orders
pub mod Steps
