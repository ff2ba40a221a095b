pub mod Words
pub mod Tokens
pub mod Statements
pub mod Texts
pub mod Faults
pub mod Sketches
pub mod Lines
pub mod Listing
