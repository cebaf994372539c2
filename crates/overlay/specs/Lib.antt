pub mod Overlay
pub mod Lent
pub mod Given
pub mod Sound
pub mod Calls
pub mod First
