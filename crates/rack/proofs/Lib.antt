pub mod Racks
