pub mod Print
pub mod Piece
pub mod Printer
