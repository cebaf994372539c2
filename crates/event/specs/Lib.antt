pub mod Event
pub mod Legal
