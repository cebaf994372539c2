pub mod Known
pub mod Numbers
pub mod Writes
pub mod First
