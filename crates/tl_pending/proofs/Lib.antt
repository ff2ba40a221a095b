pub mod AppendedLemmas
pub mod AddedLemmas
pub mod CallLemmas
mod EpochLemmas
