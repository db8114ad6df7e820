pub mod Firsts
pub mod Preparing
pub mod Told
