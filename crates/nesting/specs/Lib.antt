pub mod Name
pub mod Nesting
pub mod Marks
pub mod Grammar
pub mod Opened
pub mod Opening
