-- How much is stored.
use Rattle.std.specs.Prelude.{◌≡◌, ◌<◌, ◌≤◌, ◌⊎◌}
use Rattle.tl_follow.specs.Positions.{beginning}
use Rattle.tl_ledger.specs.declared.committing.Marks.{Marks}
use Rattle.tl_journal.specs.declared.desk.Extent.{Extent}

-- the first has at least as many rows of each table as the second
pub record HasRows (stored wanted : Marks) : Type 0 where
  pub nodes : wanted.nodes ≤ stored.nodes
  pub procedures : wanted.procedures ≤ stored.procedures
  pub calls : wanted.calls ≤ stored.calls
  pub turns : wanted.turns ≤ stored.turns
  pub replies : wanted.replies ≤ stored.replies
  pub seals : wanted.seals ≤ stored.seals

-- What is wanted is stored: it is of a volume before, all of which is stored, or the rows of its volume are.
abbrev pub Covers : Extent → Extent → Type 0
Covers stored wanted = (wanted.before < stored.before) ⊎ ((wanted.before ≡ stored.before) × HasRows stored.rows wanted.rows)

-- no row of any volume
abbrev pub nothing : Extent
nothing = record { before = 0; rows = beginning }

-- What a follower holds, after it said that it holds so many rows: those, if they are stored, and it held no more before.
abbrev pub IsHeldAfter : Extent → Extent → Extent → Extent → Type 0
IsHeldAfter stored said old new =
    (Covers stored said → Covers said old → new ≡ said)
    × (((Covers stored said × Covers said old) → ⊥) → new ≡ old)
