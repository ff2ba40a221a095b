use Rattle.std.proofs.Common.{take}
use Rattle.tl_warnings.specs.Failing.{BlockFails}
use Rattle.tl_warnings.proofs.failing.+failing.Given as goal

abbrev pub invariant-block_may_fail-loop-statement : goal.invariant-block_may_fail-loop-statement
invariant-block_may_fail-loop-statement l = BlockFails (take l.statement-index l.statements) l.found
