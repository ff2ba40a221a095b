use Rattle.std.proofs.Common.{◌≡◌, ◌++◌, ◌≤◌, List}
use Rattle.tl_tree_locking.specs.declared.event.Event.{Event}
use Rattle.tl_procedures.specs.declared.request.Request.{Request}
use Rattle.tl_recover.specs.Redriven.{Fits, GoesOn}
use Rattle.tl_recover.proofs.Finished.{executed}
use Rattle.tl_recover.proofs.redriving.finish.Given as goal

abbrev pub invariant-loop : goal.invariant-loop
invariant-loop l = ((more : List Event) × (l.core.seen.past ≡ more ++ l.initial.core.seen.past)) × GoesOn l.initial.core.seen l.core.seen × ((requests : List Request) → Fits l.initial.core.seen requests → Fits l.core.seen requests) × (l.counter ≤ executed l.core.seen)
