pub mod Gaps
pub mod Parts
