pub mod Turns
pub mod Elements
pub mod Changes
pub mod Calls
pub mod Given
