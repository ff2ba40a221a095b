use Rattle.std.proofs.Common.{◌≡◌, take}
use Rattle.tl_audit.proofs.chain.begins_with.Given as goal

abbrev pub invariant-loop-node : goal.invariant-loop-node
invariant-loop-node l = take l.node l.shape ≡ take l.node l.first
