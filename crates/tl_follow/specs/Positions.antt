-- The rows of a store between two positions. A position says of each table that grows how many of its rows are before it.
use Rattle.std.specs.Prelude.{◌≡◌, ℕ, ◌+◌, ◌-◌, ◌<◌, ◌≤◌, ◌⊎◌, pos, List, [], ◌∷◌, map, take, drop, length}
use Rattle.tl_ledger.specs.declared.committing.Marks.{Marks}
use Rattle.tl_ledger.specs.declared.schema.TheConstants.{NODE, PROCEDURE, CALL, TURN, REPLY, SEAL}
use Rattle.tl_ledger.specs.declared.rows.SealRow.{SealRow}
use Rattle.tl_ledger.specs.Contents.{Contents}
use Rattle.tl_ledger.specs.News.{node_columns, procedure_columns, call_columns, turn_columns, reply_columns, seal_columns}
use Rattle.tl_follow.specs.declared.rows.Rows.{Rows}

-- the items behind the first `a` of them, up to the first `b`
abbrev pub between : {A : Type 0} → ℕ → ℕ → List A → List A
between a b xs = take (b - a) (drop a xs)

-- the position before all rows
abbrev pub beginning : Marks
beginning = record { nodes = 0; procedures = 0; calls = 0; turns = 0; replies = 0; seals = 0 }

-- no table has fewer rows before the second position
pub record IsUpTo (from to : Marks) : Type 0 where
  pub nodes : from.nodes ≤ to.nodes
  pub procedures : from.procedures ≤ to.procedures
  pub calls : from.calls ≤ to.calls
  pub turns : from.turns ≤ to.turns
  pub replies : from.replies ≤ to.replies
  pub seals : from.seals ≤ to.seals

-- there are at least so many rows
pub record HasAsMany (c : Contents) (m : Marks) : Type 0 where
  pub nodes : m.nodes ≤ length (c NODE)
  pub procedures : m.procedures ≤ length (c PROCEDURE)
  pub calls : m.calls ≤ length (c CALL)
  pub turns : m.turns ≤ length (c TURN)
  pub replies : m.replies ≤ length (c REPLY)
  pub seals : m.seals ≤ length (c SEAL)

-- the seal's row that a position is right behind
abbrev pub seal_at : Marks → SealRow
seal_at m = record { procedures = pos m.procedures; calls = pos m.calls; turns = pos m.turns; replies = pos m.replies }

-- The position to which rows go from another: behind all, if all seals are before the first; else right behind the first seal that isn't.
abbrev pub IsNext : Contents → Marks → Marks → Marks → Type 0
IsNext c stored from to =
    ((from.seals ≡ stored.seals) × (to ≡ stored))
    ⊎ ((from.seals < stored.seals) × (to.seals ≡ from.seals + 1) × (between from.seals to.seals (c SEAL) ≡ seal_columns (seal_at to) ∷ []))

-- these are the rows of each table between the positions, in their order
pub record AreBetween (c : Contents) (from to : Marks) (rows : Rows) : Type 0 where
  pub nodes : map node_columns rows.nodes.items ≡ between from.nodes to.nodes (c NODE)
  pub procedures : map procedure_columns rows.procedures.items ≡ between from.procedures to.procedures (c PROCEDURE)
  pub calls : map call_columns rows.calls.items ≡ between from.calls to.calls (c CALL)
  pub turns : map turn_columns rows.turns.items ≡ between from.turns to.turns (c TURN)
  pub replies : map reply_columns rows.replies.items ≡ between from.replies to.replies (c REPLY)
  pub seals : map seal_columns rows.seals.items ≡ between from.seals to.seals (c SEAL)
