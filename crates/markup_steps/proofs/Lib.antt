pub mod Wrapped
pub mod Kept
pub mod Runs
