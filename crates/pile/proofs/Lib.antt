pub mod Fades
