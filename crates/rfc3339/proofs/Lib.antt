pub mod Fields
pub mod Texts
pub mod Forms
pub mod Unique
pub mod Rfc3339
pub mod Examples
