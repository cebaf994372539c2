pub mod Ends
pub mod Pieces
pub mod Kept
pub mod Starts
pub mod Printed
