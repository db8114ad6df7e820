pub mod Rack
pub mod Sound
