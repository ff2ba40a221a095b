pub mod Faults
pub mod Compiling
