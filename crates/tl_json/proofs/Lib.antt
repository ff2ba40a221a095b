pub mod Items
pub mod Texts
pub mod Taking
pub mod Registered
