pub mod Checked
pub mod Column
pub mod Faults
pub mod Kept
pub mod Line
pub mod Order
pub mod Part
pub mod Parts
