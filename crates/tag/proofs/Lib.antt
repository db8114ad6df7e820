pub mod Another
pub mod Answering
pub mod Blocks
pub mod Keeps
pub mod Steps
pub mod Turns
