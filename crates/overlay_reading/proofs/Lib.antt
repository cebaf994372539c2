pub mod Records
pub mod Numbers
pub mod Texts
pub mod First
