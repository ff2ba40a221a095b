use Rattle.tl_machine.proofs.TurnLemmas.{comes_turn}
use Rattle.tl_machine.proofs.segment.local.Goals as goal

pub stop_at-stop-requires-clause-turn : goal.stop_at-stop-requires-clause-turn
stop_at-stop-requires-clause-turn c =
    rw (c.deref-2.ensures, c.procedure-2.ensures, c.deref-3.ensures, c.shape.ensures)
    (comes_turn _ _ _ _ c.call.ensures.turn (rw (c.call.ensures.state, c.deref.ensures, c.procedure.ensures) at c.run_local-pending.ensures.follows))

pub stop_at-stop-requires-clause-stops : goal.stop_at-stop-requires-clause-stops
stop_at-stop-requires-clause-stops c =
    rw (c.deref-2.ensures, c.procedure-2.ensures) (rw (c.deref.ensures, c.procedure.ensures) at c.run_local-pending.ensures.stop)

pub invariant_of-result : goal.invariant_of-result
invariant_of-result c =
    let follows = rw (c.call.ensures.state, c.deref.ensures, c.procedure.ensures) at c.run_local-pending.ensures.follows in
    record {
      from = c.call.ensures.turn;
      to = comes_turn _ _ _ _ c.call.ensures.turn follows;
      follows = follows;
      stop = rw (c.deref-2.ensures, c.procedure-2.ensures, c.deref-3.ensures, c.shape.ensures) at c.stop_at-stop.ensures;
    }
