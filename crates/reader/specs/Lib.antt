pub mod State
pub mod Lent
pub mod Given
pub mod Step
pub mod Done
pub mod Event
pub mod Means
pub mod Table
