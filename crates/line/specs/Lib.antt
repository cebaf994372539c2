pub mod Line
pub mod Decimal
