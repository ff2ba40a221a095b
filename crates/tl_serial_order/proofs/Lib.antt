pub mod Marks
pub mod Lines
pub mod HeldNodes
pub mod Coming
pub mod KeptOrders
pub mod LegalEvents
pub mod CheckedLemmas
mod Rows
