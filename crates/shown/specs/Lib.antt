pub mod Asks
pub mod Container
pub mod Flaw
pub mod Shown
pub mod Walk
