mod ReadLemmas
mod RowLemmas
