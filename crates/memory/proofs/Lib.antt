pub mod Stretches
pub mod Units
