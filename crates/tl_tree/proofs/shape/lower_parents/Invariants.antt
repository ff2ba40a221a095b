use Rattle.std.proofs.Common.{◌≡◌, map, take, drop, unsigned_abs}
use Rattle.tl_tree.specs.Shape.{first_astray}
use Rattle.tl_tree.proofs.shape.lower_parents.Given as goal

abbrev pub invariant-loop-node : goal.invariant-loop-node
invariant-loop-node l =
    (first_astray l.node (drop l.node l.parents) ≡ first_astray 1 (drop 1 l.parents)) × (l.lower.items ≡ map unsigned_abs (take l.node l.parents))
