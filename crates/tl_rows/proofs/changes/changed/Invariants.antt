use Rattle.tl_rows.specs.Changes.{LeadsBelow}
use Rattle.tl_rows.proofs.changes.changed.Given as goal

abbrev pub invariant-loop-node : goal.invariant-loop-node
invariant-loop-node l = LeadsBelow l.node l.before l.now l.changes.items
