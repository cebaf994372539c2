pub mod Summary
pub mod Listing
