pub mod Ask
pub mod Known
