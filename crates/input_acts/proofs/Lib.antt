pub mod Runs
pub mod Printed
pub mod Texts
