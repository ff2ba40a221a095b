use Rattle.std.proofs.Common.{◌≡◌}
use Rattle.tl_generations.specs.Growth.{with_zeros}
use Rattle.tl_generations.proofs.growth.with_zero_records.Given as goal

abbrev pub invariant-loop-node : goal.invariant-loop-node
invariant-loop-node l = l.all.items ≡ with_zeros l._node l.records
