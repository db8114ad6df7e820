pub mod Alone
pub mod Binds
pub mod Frames
