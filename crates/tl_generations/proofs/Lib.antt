pub mod Growing
pub mod Joined
