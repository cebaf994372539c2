pub mod Ends
pub mod Printed
pub mod Starts
