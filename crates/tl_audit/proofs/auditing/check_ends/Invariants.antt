-- The nodes before this one have the right end records.
use Rattle.std.proofs.Common.{◌<◌, ℕ}
use Rattle.tl_trail.specs.Clean.{EndsSo}
use Rattle.tl_audit.proofs.auditing.check_ends.Given as goal

abbrev pub invariant-loop-node : goal.invariant-loop-node
invariant-loop-node l = (x : ℕ) → x < l.node → EndsSo l.trail x
