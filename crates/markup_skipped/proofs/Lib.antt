pub mod Tests
pub mod Keywords
pub mod Upper
pub mod Values
pub mod Targets
pub mod Kept
