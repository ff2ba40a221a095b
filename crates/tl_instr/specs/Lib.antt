pub mod Versions
pub mod Instructions
pub mod Codes
pub mod Spelling
pub mod Faults
pub mod Reading
