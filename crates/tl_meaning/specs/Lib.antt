pub mod Calls
pub mod Endings
pub mod Leading
pub mod Meaning
pub mod Told
