pub mod Copying
pub mod Refusals
pub mod Following
pub mod Beginning
