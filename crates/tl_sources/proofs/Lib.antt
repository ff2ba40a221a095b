pub mod SourceLemmas
pub mod GivenLemmas
