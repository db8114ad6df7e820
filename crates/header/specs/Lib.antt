pub mod Format
pub mod Header
pub mod Refusal
