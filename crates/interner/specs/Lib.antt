pub mod Interned
pub mod Texts
pub mod Strings
pub mod Sound
pub mod Check
pub mod Lent
