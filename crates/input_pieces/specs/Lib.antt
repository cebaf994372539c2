pub mod Feed
pub mod Lent
