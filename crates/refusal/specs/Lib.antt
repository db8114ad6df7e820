pub mod Cause
pub mod Step
