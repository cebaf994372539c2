pub mod Bulk
pub mod Rows
pub mod First
