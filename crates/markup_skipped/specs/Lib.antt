pub mod Comments
pub mod Declarations
pub mod Instructions
