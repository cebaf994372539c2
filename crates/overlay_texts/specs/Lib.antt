pub mod Texts
pub mod Lent
pub mod Calls
pub mod Given
pub mod First
