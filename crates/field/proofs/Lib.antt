pub mod Addressed
pub mod Exchanges
