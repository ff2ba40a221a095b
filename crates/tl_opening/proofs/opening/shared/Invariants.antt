use Rattle.std.proofs.Common.{◌≡◌, take}
use Rattle.tl_opening.specs.Opening.{epochs_of}
use Rattle.tl_opening.proofs.opening.shared.Given as goal

abbrev pub invariant-loop-frees : goal.invariant-loop-frees
invariant-loop-frees l = epochs_of l.all.items ≡ epochs_of (take l.frees-index l.left)
