pub mod Lookup
pub mod Asked
pub mod Sorted
