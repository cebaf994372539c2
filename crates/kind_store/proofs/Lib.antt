pub mod Seats
pub mod Settings
pub mod Acts
pub mod Answers
pub mod Claims
pub mod KindStores
