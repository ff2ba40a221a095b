pub mod Claims
pub mod Pendings
