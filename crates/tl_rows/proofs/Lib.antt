pub mod ChangeLemmas
pub mod TurnLemmas
