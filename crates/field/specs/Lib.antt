pub mod Addressed
pub mod Decode
pub mod Exchange
pub mod Placed
pub mod Span
