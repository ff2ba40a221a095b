use Rattle.std.proofs.Common.{◌≡◌, ◌-◌}
use Rattle.tl_budget.specs.Loops.{budget}
use Rattle.tl_machine.specs.BetweenSteps.{run_left}
use Rattle.tl_machine.proofs.RunFromStart.{UnderWay}
use Rattle.tl_machine.proofs.alone_run.run.Given as goal

-- the actions so far and the rest of the run are the initial run, and the tree's shape hasn't changed
abbrev pub invariant-loop-node : goal.invariant-loop-node
invariant-loop-node l = record {
  under_way : UnderWay l.procedure.instrs l.tree.parents (run_left l.procedure.instrs l.initial.tree.parents l.initial.call l.initial.tree.records) l.call l.tree.records;
  shape : l.tree.parents ≡ l.initial.tree.parents;
}

abbrev pub decreases-loop-node : goal.decreases-loop-node
decreases-loop-node l = budget l.procedure.instrs - l.call.steps
