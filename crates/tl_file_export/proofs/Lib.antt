pub mod FiledLemmas
mod CleanLemmas
