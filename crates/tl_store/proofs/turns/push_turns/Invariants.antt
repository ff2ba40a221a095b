use Rattle.std.proofs.Common.{◌≡◌, ◌++◌, ◌*◌, ◌<◌, ℕ, List, take}
use Rattle.std.specs.Prelude.{All}
use Rattle.tl_rows.specs.Rows.{turn_bytes}
use Rattle.tl_store.proofs.turns.push_turns.Given as goal

-- the turns of the first bytes were added
abbrev pub invariant-loop-at : goal.invariant-loop-at
invariant-loop-at l = (more : List ℕ) × (take (2 * l.at) l.bytes ≡ turn_bytes more) × (l.turns.items ≡ l.initial.turns.items ++ more) × All (λ t. t < 65536) l.turns.items
