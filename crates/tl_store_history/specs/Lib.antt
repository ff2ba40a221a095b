pub mod Sealed
pub mod History
