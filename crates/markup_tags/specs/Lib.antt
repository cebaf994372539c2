pub mod Characters
pub mod Output
pub mod Meanings
pub mod References
pub mod StartTags
pub mod EndTags
