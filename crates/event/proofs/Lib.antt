pub mod Parts
pub mod Attrs
pub mod Fields
pub mod Events
pub mod Refusals
pub mod Examples
