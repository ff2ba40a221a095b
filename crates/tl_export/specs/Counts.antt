-- How many rows there were at the beginning and at the end of an epoch.
use Rattle.std.specs.Prelude.{◌≡◌, ◌≤◌, ℕ, suc, pos, List, slice_get, IfSome, IfNone}
use Rattle.tl_ledger.specs.declared.rows.SealRow.{SealRow}
use Rattle.tl_ledger.specs.declared.committing.Marks.{Marks}
use Rattle.tl_export.specs.declared.counts.Counts.{Counts}

-- before the first epoch there were none
abbrev pub no_rows : Counts
no_rows = record { procedures = 0; calls = 0; turns = 0; replies = 0 }

-- all that there are
abbrev pub all_rows : Marks → Counts
all_rows m = record { procedures = m.procedures; calls = m.calls; turns = m.turns; replies = m.replies }

-- as many as the seal counts
pub record IsCounted (seal : SealRow) (n : Counts) : Type 0 where
  pub procedures : seal.procedures ≡ pos n.procedures
  pub calls : seal.calls ≡ pos n.calls
  pub turns : seal.turns ≡ pos n.turns
  pub replies : seal.replies ≡ pos n.replies

-- at the end of epoch n: as many as its seal counts; all, if it isn't sealed
pub record AreAtEnd (seals : List SealRow) (m : Marks) (n : ℕ) (last : Counts) : Type 0 where
  pub sealed : IfSome (slice_get seals n) (λ seal. IsCounted seal last)
  pub unsealed : IfNone (slice_get seals n) (last ≡ all_rows m)

-- at the beginning of epoch n: as many as at the end of the one before
pub record AreAtBeginning (seals : List SealRow) (m : Marks) (n : ℕ) (first : Counts) : Type 0 where
  pub none : n ≡ 0 → first ≡ no_rows
  pub before : (k : ℕ) → n ≡ suc k → AreAtEnd seals m k first

-- no count has become less
pub record AreInOrder (first last : Counts) : Type 0 where
  pub procedures : first.procedures ≤ last.procedures
  pub calls : first.calls ≤ last.calls
  pub turns : first.turns ≤ last.turns
  pub replies : first.replies ≤ last.replies

-- epoch n has counts: those at its beginning aren't above those at its end, and these not above what there is
pub record HasCounts (seals : List SealRow) (m : Marks) (n : ℕ) : Type 0 where
  pub first : Counts
  pub last : Counts
  pub beginning : AreAtBeginning seals m n first
  pub end : AreAtEnd seals m n last
  pub order : AreInOrder first last
  pub inside : AreInOrder last (all_rows m)
