pub mod EitherWidth
pub mod Faults
pub mod Items
pub mod Parts
pub mod Kids
pub mod Parents
pub mod Paths
pub mod RoundTrip
pub mod Stands
pub mod Texts
pub mod Widths
mod Rows
