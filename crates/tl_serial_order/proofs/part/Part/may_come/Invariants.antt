use Rattle.std.proofs.Common.{◌≡◌, ◌<◌, List, length}
use Rattle.tl_tree_locking.specs.declared.action.Action.{Action}
use Rattle.tl_tree_locking.proofs.MayComeLemmas.{comes}
use Rattle.tl_serial_order.specs.Part.{IsPart}
use Rattle.tl_serial_order.proofs.part.Part.may_come.Given as goal

-- the nodes from this one on up determine the result
abbrev pub invariant-loop-step : goal.invariant-loop-step
invariant-loop-step l =
    (l.step < length l.shape)
    × ((done : List Action) → IsPart l.self done → comes l.shape done l.node ≡ comes l.shape done l.step)

abbrev pub decreases-loop-step : goal.decreases-loop-step
decreases-loop-step l = l.step
