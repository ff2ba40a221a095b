use Rattle.tl_budget.proofs.NestingWalk.{Walked}
use Rattle.tl_budget.proofs.nesting.nest.Given as goal

abbrev pub invariant-loop-position : goal.invariant-loop-position
invariant-loop-position l = Walked l.code.instrs l.position l.openings.items l.places.items
