pub mod ListLemmas
pub mod ReadingLemmas
pub mod FailingLemmas
pub mod FindingLemmas
pub mod LockingLemmas
pub mod PassingLemmas
pub mod WalkingLemmas
