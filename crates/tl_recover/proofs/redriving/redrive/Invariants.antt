use Rattle.std.proofs.Common.{◌≡◌, ◌++◌, map, reverse, take, drop}
use Rattle.tl_tree_locking.specs.History.{caller}
use Rattle.tl_core.specs.Cores.{CoreValue}
use Rattle.tl_recover.specs.Redriven.{Fits, GoesOn, AreTurnsTo}
use Rattle.tl_recover.proofs.redriving.redrive.Given as goal

abbrev pub invariant-loop-call : goal.invariant-loop-call
invariant-loop-call l =
    (map caller l.core.seen.past ≡ reverse (take l.call-index l.turns) ++ map caller l.initial.core.seen.past)
    × (Fits l.initial.core.seen l.requests → Fits l.core.seen l.requests)
    × GoesOn l.initial.core.seen l.core.seen
    × ((v : CoreValue) → AreTurnsTo v l.initial.core.seen l.requests l.turns → AreTurnsTo v l.core.seen l.requests (drop l.call-index l.turns))
