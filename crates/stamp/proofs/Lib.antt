pub mod Reading
pub mod Judging
pub mod Counting
pub mod Answering
pub mod Bounds
