pub mod Within
pub mod Chars
pub mod Back
pub mod Read
pub mod Reached
pub mod ReachedTags
pub mod ReachedSkipped
pub mod Kept
