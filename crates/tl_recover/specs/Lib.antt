pub mod Faults
pub mod Redriven
pub mod Later
