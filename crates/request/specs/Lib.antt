pub mod Command
pub mod Errors
pub mod Frame
pub mod Parsed
pub mod Texts
