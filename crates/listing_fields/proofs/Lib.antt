pub mod Walks
pub mod Records
