use Rattle.std.proofs.Common.{◌≡◌, length, take}
use Rattle.tl_rows.specs.Rows.{all_turn_bytes}
use Rattle.tl_store.proofs.closing.count_bytes.Given as goal

-- the bytes of the first rows were counted
abbrev pub invariant-loop-row : goal.invariant-loop-row
invariant-loop-row l = l.count ≡ length (all_turn_bytes (take l.row-index l.rows))
