-- The marks of one call: what it has done to each node.
use Rattle.std.specs.Prelude.{◌≡◌, ℕ, ◌+◌, ◌<◌, Bool, true, false, List, [], ◌∷◌, length, slice_index_or}
use Rattle.tl_tree_locking.specs.declared.action.Action.{Action}
use Rattle.tl_tree_locking.specs.Actions
use Rattle.tl_serial_order.specs.declared.part.Mark.{Mark}
use Rattle.tl_serial_order.specs.declared.part.Mark.TheVariants.{Untouched, Held, Freed}

-- the call locked the node
abbrev pub was_locked : Mark → Bool
was_locked Untouched = false
was_locked Held = true
was_locked Freed = true

-- the call holds the node
abbrev pub is_held : Mark → Bool
is_held Untouched = false
is_held Held = true
is_held Freed = false

-- for each node whether the call locked it, and whether the call holds it
pub record Marks : Type 0 where
  pub locked : List Bool
  pub held : List Bool

abbrev pub node_count : Marks → ℕ
node_count m = length m.locked

-- the number of entries that are true
abbrev pub trues : List Bool → ℕ
trues [] = 0
trues (true ∷ bs) = trues bs + 1
trues (false ∷ bs) = trues bs

-- the marks are those of a call that has done these actions
pub record IsPart (m : Marks) (done : List Action) : Type 0 where
  pub locks : (y : ℕ) → y < node_count m → slice_index_or m.locked y false ≡ Actions.locked done y
  pub holds : (y : ℕ) → y < node_count m → slice_index_or m.held y false ≡ Actions.held done y
