pub mod Turn
pub mod Call
pub mod Lines
