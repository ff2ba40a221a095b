pub mod Faults
pub mod Shape
pub mod Records
pub mod Trees
pub mod Reading
pub mod Writing
