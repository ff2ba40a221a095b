use Rattle.std.proofs.Common.{◌≡◌, ◌<◌, take}
use Rattle.std.specs.Prelude.{All}
use Rattle.tl_rows.specs.Rows.{turn_bytes, all_turn_bytes}
use Rattle.tl_store.proofs.turns.turns_of.Given as goal

-- the turns so far are those of the first rows
abbrev pub invariant-loop-row : goal.invariant-loop-row
invariant-loop-row l = (all_turn_bytes (take l.row-index l.rows) ≡ turn_bytes l.turns.items) × All (λ t. t < 65536) l.turns.items
