pub mod BehindLemmas
mod Rows
