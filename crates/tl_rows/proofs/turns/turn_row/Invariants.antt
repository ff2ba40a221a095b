use Rattle.std.proofs.Common.{◌≡◌, take}
use Rattle.tl_rows.specs.Rows.{turn_bytes}
use Rattle.tl_rows.proofs.turns.turn_row.Given as goal

-- the bytes so far are those of the first turns
abbrev pub invariant-loop-turn : goal.invariant-loop-turn
invariant-loop-turn l = l.calls.items ≡ turn_bytes (take l.turn-index l.turns)
