pub mod Capped
pub mod Loops
pub mod Findings
pub mod Nested
pub mod Costs
pub mod Faults
