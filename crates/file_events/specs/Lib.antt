pub mod Parts
pub mod Unlined
pub mod Passing
pub mod Refusals
pub mod Open
