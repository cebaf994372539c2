pub mod Buckets
pub mod Chaining
pub mod Search
pub mod More
pub mod Laws
