pub mod Calendar
