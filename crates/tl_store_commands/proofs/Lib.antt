pub mod RememberingLemmas
mod ReopeningLemmas
mod EmptyLemmas
mod BeginningLemmas
pub mod KeyedLemmas
