pub mod Ids
pub mod Walks
pub mod Passing
pub mod Decides
pub mod Keeps
