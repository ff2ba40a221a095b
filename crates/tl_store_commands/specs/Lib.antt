pub mod Beginning
pub mod Remembering
