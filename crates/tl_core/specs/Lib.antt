pub mod Faults
pub mod Cores
pub mod Entries
pub mod Begun
pub mod Reached
pub mod Stored
pub mod Kept
pub mod Followed
