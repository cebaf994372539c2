pub mod Split
pub mod Table
pub mod Lists
pub mod Equal
pub mod Strict
pub mod Tests
pub mod Neighbours
