use Rattle.std.proofs.Common.{sym}
use Rattle.std.specs.Arc.{arc_value}
use Rattle.tl_machine.proofs.TurnLemmas.{stands_running, turn_at_stop, at_stop}
use Rattle.tl_machine.proofs.turn.Turn.step.Goals as goal

pub unreachable-requires : goal.unreachable-requires
unreachable-requires c =
    let s = c.in-Err.ensures.stops in
    turn_at_stop _ _ _ c.self.invariant (at_stop _ (arc_value c.self.inside.shape) _ _ (rw c.deref.ensures at s)) (rw (sym c.self.view_is) at c.requires)

pub returns-clause-steps : goal.returns-clause-steps
returns-clause-steps c =
    let did = rw c.deref.ensures at c.in-Ok.ensures.did in
    rw (sym c.self.view_is) (did.steps (arc_value c.self.inside.shape) (stands_running _ _ _ c.self.invariant did.running))
