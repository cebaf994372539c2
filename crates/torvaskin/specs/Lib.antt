pub mod Overlays
pub mod Readers
pub mod Files
pub mod Readings
pub mod Records
pub mod Listings
pub mod First
