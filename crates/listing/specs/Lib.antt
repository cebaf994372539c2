pub mod Known
pub mod Table
pub mod Pieces
pub mod Call
pub mod First
