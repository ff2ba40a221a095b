pub mod Rows
pub mod Contents
pub mod News
pub mod Entries
