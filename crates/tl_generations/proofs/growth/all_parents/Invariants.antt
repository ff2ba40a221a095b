use Rattle.std.proofs.Common.{◌≡◌, pos, map, take}
use Rattle.tl_generations.proofs.growth.all_parents.Given as goal

abbrev pub invariant-loop-node : goal.invariant-loop-node
invariant-loop-node l = l.parents.items ≡ map pos (take l.node l.shape)
