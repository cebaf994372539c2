pub mod Maps
pub mod Spans
pub mod Chunks
pub mod Rises
pub mod Halves
pub mod Gaps
pub mod Tables
