pub mod Faults
pub mod Counts
pub mod Differing
pub mod Plans
pub mod Epochs
pub mod Exported
