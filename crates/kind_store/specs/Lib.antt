pub mod KindStore
pub mod WellFormed
pub mod Lent
pub mod Seats
