pub mod Printed
pub mod Sound
