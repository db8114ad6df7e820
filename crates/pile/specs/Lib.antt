pub mod Capped
pub mod Sound
