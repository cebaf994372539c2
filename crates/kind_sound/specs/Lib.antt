pub mod Sound
pub mod Check
pub mod Cells
