pub mod Laying
pub mod Puts
