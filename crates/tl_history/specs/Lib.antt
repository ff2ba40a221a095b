pub mod Stored
pub mod Faults
