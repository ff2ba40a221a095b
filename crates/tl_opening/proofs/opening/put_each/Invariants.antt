use Rattle.std.proofs.Common.{◌≡◌, take}
use Rattle.tl_opening.specs.Opening.{records_behind, epochs_of}
use Rattle.tl_opening.proofs.opening.put_each.Given as goal

abbrev pub invariant-loop-frees : goal.invariant-loop-frees
invariant-loop-frees l = l.tree ≡ record { parents = l.initial.tree.parents; records = records_behind l.initial.tree.records (epochs_of (take l.frees-index l.left)) }
