use Rattle.tl_machine.proofs.TurnLemmas.{over_stops, attempted_did, attempted_stop, attempted_same}
use Rattle.tl_machine.proofs.call.CallState.advance.Goals as goal

pub returns-then-self-clause-stops : goal.returns-then-self-clause-stops
returns-then-self-clause-stops c = over_stops _ c.requires.0 _ c.if-self.true

pub returns-clause-did : goal.returns-clause-did
returns-clause-did c = rw c.put_control.ensures (attempted_did _ c.requires.0 _ _ _ (rw c.control-at.ensures at c.attempt-attempt.ensures))

pub returns-clause-stops : goal.returns-clause-stops
returns-clause-stops c = attempted_stop _ c.requires.0 _ c.if-self.false _ _ (rw c.control-at.ensures at c.attempt-attempt.ensures)

pub returns-clause-unchanged : goal.returns-clause-unchanged
returns-clause-unchanged c = rw c.put_control.ensures (attempted_same _ c.requires.0 _ _ _ (rw c.control-at.ensures at c.attempt-attempt.ensures))
