pub mod Growth
pub mod Generations
