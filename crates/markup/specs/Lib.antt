pub mod Signs
pub mod Names
pub mod References
pub mod Markup
pub mod Automaton
pub mod MarkupBytes
pub mod Printed
