pub mod Faults
pub mod Stored
pub mod Recovered
pub mod Closing
pub mod Left
