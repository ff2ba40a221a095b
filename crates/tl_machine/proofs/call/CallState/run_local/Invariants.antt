use Rattle.std.proofs.Common.{◌-◌, List, ℕ}
use Rattle.tl_budget.specs.Loops.{budget}
use Rattle.tl_machine.specs.BetweenSteps.{IsBetweenSteps}
use Rattle.tl_machine.specs.Call.{with_control}
use Rattle.tl_machine.specs.Turns.{ComesByLocal}
use Rattle.tl_machine.proofs.call.CallState.run_local.Given as goal

-- the call is open, in a state to which local instructions have led
abbrev pub invariant-loop-pending : goal.invariant-loop-pending
invariant-loop-pending l = record {
  stands : (parents : List ℕ) × IsBetweenSteps l.procedure.instrs parents (with_control l.self l.at);
  follows : ComesByLocal l.procedure.instrs l.initial.self (with_control l.self l.at);
}

abbrev pub decreases-loop-pending : goal.decreases-loop-pending
decreases-loop-pending l = budget l.procedure.instrs - l.at.steps
