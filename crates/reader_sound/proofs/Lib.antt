pub mod Sound
pub mod Mark
