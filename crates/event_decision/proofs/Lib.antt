pub mod Places
pub mod Decided
pub mod Lawful
pub mod Table
pub mod Refusals
pub mod Given
