mod TurnLemmas
mod CallLemmas
mod RebuiltLemmas
mod StoredLemmas
mod ReplyLemmas
mod ClosingLemmas
mod ProcedureLemmas
pub mod AgainLemmas
pub mod DiskLemmas
