pub mod Bench
pub mod Sound
