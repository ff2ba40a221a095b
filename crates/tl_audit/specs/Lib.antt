pub mod Faults
pub mod Findings
pub mod Verdict
pub mod Chains
pub mod Watching
pub mod Genuine
pub mod Replaying
