pub mod Layout
pub mod Cut
pub mod Fits
pub mod Legal
pub mod Held
pub mod View
pub mod Tags
pub mod Push
