mod RowLemmas
mod CommitLemmas
mod FieldLemmas
mod SomeLemmas
mod ReadLemmas
pub mod OnlyReading
