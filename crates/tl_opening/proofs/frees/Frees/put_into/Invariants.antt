use Rattle.std.proofs.Common.{◌≡◌, take}
use Rattle.tl_opening.specs.Opening.{records_left}
use Rattle.tl_opening.proofs.frees.Frees.put_into.Given as goal

abbrev pub invariant-loop-left : goal.invariant-loop-left
invariant-loop-left l = l.tree ≡ record { parents = l.initial.tree.parents; records = records_left l.initial.tree.records (take l.left-index l.self) }
