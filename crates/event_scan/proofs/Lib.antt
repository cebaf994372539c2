pub mod Places
pub mod Pieces
pub mod Lines
pub mod Names
pub mod Parts
pub mod Standing
pub mod Noted
pub mod Valued
