pub mod Failing
pub mod Finding
pub mod Locking
pub mod Passing
pub mod Reading
pub mod Walking
