pub mod Fields
pub mod Metadata
pub mod Given
