pub mod Rows
pub mod EachKind
pub mod Pages
pub mod Calls
pub mod Summaries
pub mod First
