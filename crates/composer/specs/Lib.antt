pub mod Composing
pub mod Describing
pub mod Fields
pub mod Message
pub mod Records
pub mod Writer
