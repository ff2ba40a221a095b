pub mod Unstored
