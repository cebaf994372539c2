pub mod Keys
pub mod Counts
pub mod Steps
pub mod Lookups
pub mod Seeks
pub mod Examples
pub mod Sorted
