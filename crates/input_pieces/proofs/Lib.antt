pub mod Stops
pub mod Pieces
pub mod Fronts
