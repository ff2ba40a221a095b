pub mod Epochs
pub mod Texts
