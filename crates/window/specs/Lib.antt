pub mod Window
pub mod Sound
