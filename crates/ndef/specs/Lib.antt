pub mod Content
pub mod Reader
pub mod Reading
