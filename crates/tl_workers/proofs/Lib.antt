pub mod AllSessions
pub mod Askings
pub mod Batches
pub mod Calls
pub mod Notings
pub mod Refusing
pub mod Turns
