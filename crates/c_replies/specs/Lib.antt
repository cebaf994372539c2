pub mod Numbers
pub mod Overlays
pub mod Readers
pub mod Readings
pub mod Records
pub mod Lookups
pub mod Listings
