use Rattle.std.proofs.Common.{ℕ, ◌<◌}
use Rattle.tl_export.specs.Differing.{IsSame}
use Rattle.tl_export.proofs.differing.first_other.Given as goal

-- the records so far are those of their rows
abbrev pub invariant-loop-node : goal.invariant-loop-node
invariant-loop-node l = (x : ℕ) → x < l.node → IsSame l.records l.rows x
