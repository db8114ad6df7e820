pub mod BlockLength
pub mod Calls
pub mod Model
pub mod Refusal
