pub mod AddingAll
pub mod Naming
pub mod Prefixes
pub mod Replacing
pub mod Others
