use Rattle.std.proofs.Common.{◌<◌, ◌↔◌, length}
use Rattle.tl_tree.specs.Shape.{Above}
use Rattle.tl_tree.proofs.shape.Shape.is_above.Given as goal

abbrev pub invariant-loop-step : goal.invariant-loop-step
invariant-loop-step l = (l.step < length l.self-inside.parents.items) × (Above l.self-inside.parents.items l.upper l.step ↔ Above l.self-inside.parents.items l.upper l.lower)

abbrev pub decreases-loop-step : goal.decreases-loop-step
decreases-loop-step l = l.step
