pub mod Frames
pub mod Procedure
