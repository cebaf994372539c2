pub mod File
pub mod Calls
pub mod Held
pub mod First
pub mod Tags
