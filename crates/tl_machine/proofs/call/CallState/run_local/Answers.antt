use Rattle.std.proofs.Common.{arith}
use Rattle.tl_machine.specs.Turns.{here, onward}
use Rattle.tl_machine.proofs.TurnLemmas.{stands_running, over_stops, open_stops}
use Rattle.tl_machine.proofs.call.CallState.run_local.Goals as goal

pub returns-then-self-clause-follows : goal.returns-then-self-clause-follows
returns-then-self-clause-follows c = here

pub returns-then-self-clause-stop : goal.returns-then-self-clause-stop
returns-then-self-clause-stop c = over_stops _ c.requires.0 _ c.if-self.true

pub loop-pending-init : goal.loop-pending-init
loop-pending-init c = rw c.control-at.ensures (record { stands = (c.requires.0, stands_running _ _ _ c.requires.1 c.if-self.false); follows = here })

pub loop-pending-smaller : goal.loop-pending-smaller
loop-pending-smaller c =
    let st = c.loop-pending.invariant.stands in
    let step = c.in-Ok.ensures.steps st.0 st.1 in
    let a = step.counts.steps in
    let b = step.stands.steps in
    omega arith

pub loop-pending-preserved : goal.loop-pending-preserved
loop-pending-preserved c =
    let st = c.loop-pending.invariant.stands in
    record {
      stands = (st.0, (c.in-Ok.ensures.steps st.0 st.1).stands);
      follows = onward c.loop-pending.invariant.follows c.in-Ok.field-0 c.in-Ok.ensures;
    }

pub returns-in-Err-clause-stop : goal.returns-in-Err-clause-stop
returns-in-Err-clause-stop c =
    let st = c.loop-pending.invariant.stands in
    rw (c.put_control.ensures, c.in-Err.ensures.0) (open_stops _ st.0 _ st.1.running _ c.in-Err.ensures.1)
