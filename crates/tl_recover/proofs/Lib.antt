mod Turns
mod SameTurns
pub mod Retaken
mod Finished
pub mod LaterCores
