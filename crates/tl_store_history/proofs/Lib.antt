pub mod Kept
pub mod Serial
pub mod Whole
pub mod Starts
mod Compared
