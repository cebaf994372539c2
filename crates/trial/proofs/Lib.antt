mod Opened
pub mod Claim
pub mod Inputs
pub mod Stops
