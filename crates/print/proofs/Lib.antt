pub mod Prints
pub mod Pieces
pub mod Walks
