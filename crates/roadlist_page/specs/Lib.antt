pub mod Roadlist
pub mod Finish
