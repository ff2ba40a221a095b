pub mod Admitting
pub mod Engines
pub mod Kept
mod Genuine
pub mod Lending
pub mod Matching
pub mod Noted
pub mod Refusals
pub mod Sessions
pub use Rattle.tl_workers.specs.Genuine.{WasSession}
