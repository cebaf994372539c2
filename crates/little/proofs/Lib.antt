pub mod Littles
pub mod Overs
pub mod Ends
