-- The turn is still on each run that the initial turn was on.
use Rattle.std.proofs.Common.{◌≡◌, ◌-◌, List}
use Rattle.tl_tree.specs.Records.{Records}
use Rattle.tl_tree_locking.specs.declared.action.Action.{Action}
use Rattle.tl_budget.specs.Loops.{budget}
use Rattle.tl_machine.specs.Runs.{Run}
use Rattle.tl_audit.specs.Genuine.{IsOn}
use Rattle.tl_audit.proofs.genuine.wait.Given as goal

abbrev pub invariant-loop-stop : goal.invariant-loop-stop
invariant-loop-stop l = record {
  parents : l.turn.parents ≡ l.initial.turn.parents;
  on : (t : Records) (whole : Run) (so_far : List Action) → IsOn t whole so_far l.initial.turn → IsOn t whole so_far l.turn;
}

abbrev pub decreases-loop-stop : goal.decreases-loop-stop
decreases-loop-stop l = budget l.turn.code.instrs - l.turn.call.steps
