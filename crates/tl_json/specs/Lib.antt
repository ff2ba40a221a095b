pub mod Faults
pub mod Lists
pub mod Letters
pub mod Procedures
pub mod Requests
pub mod Replies
pub mod Events
pub mod Registering
