use Rattle.std.proofs.Common.{take}
use Rattle.tl_warnings.specs.Locking.{BlockLocks}
use Rattle.tl_warnings.proofs.locking.+locking.Given as goal

abbrev pub invariant-block_locks-loop-statement : goal.invariant-block_locks-loop-statement
invariant-block_locks-loop-statement l = BlockLocks l.node.0 (take l.statement-index l.statements) l.found
