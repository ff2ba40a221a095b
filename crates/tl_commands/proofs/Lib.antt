pub mod AloneLines
pub mod ScriptLemmas
pub mod LineLemmas
pub mod DriveLemmas
pub mod InputLemmas
pub mod RunLemmas
pub mod ProcedureLines
mod Rows
pub mod SinkLemmas
pub mod ClosingLemmas
pub mod ScriptCounts
pub mod AuditLemmas
pub mod BasisLemmas
