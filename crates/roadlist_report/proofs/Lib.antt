pub mod Reports
pub mod Refused
pub mod Fits
