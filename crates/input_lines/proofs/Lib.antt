pub mod Lines
pub mod Streams
pub mod Places
pub mod Long
