pub mod Walks
pub mod Lists
pub mod Standings
pub mod Views
