pub mod Faults
pub mod Form
pub mod Known
pub mod Listed
pub mod Read
