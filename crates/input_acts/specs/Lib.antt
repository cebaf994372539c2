pub mod Requests
pub mod Input
