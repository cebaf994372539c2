pub mod Lines
pub mod Runs
pub mod Growths
pub mod Moves
pub mod PlainRuns
