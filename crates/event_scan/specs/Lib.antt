pub mod Scan
pub mod Piece
pub mod Names
pub mod Parts
pub mod Fields
pub mod Line
pub mod Places
