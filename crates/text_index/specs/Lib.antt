pub mod Index
pub mod Chained
pub mod Lent
