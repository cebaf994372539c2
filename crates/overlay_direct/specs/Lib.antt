pub mod Calls
pub mod First
