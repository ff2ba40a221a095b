use Rattle.tl_machine.specs.Turns.{HasRun}
use Rattle.tl_workers.proofs.engine.Engine.run_from.Given as goal

-- the local instructions are done, up to the call's stop
abbrev pub invariant-loop : goal.invariant-loop
invariant-loop g l = HasRun l.lent
