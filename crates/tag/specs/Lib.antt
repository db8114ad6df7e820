pub mod Jobs
pub mod Means
pub mod Orders
pub mod Refusal
pub mod Rules
pub mod Tag
