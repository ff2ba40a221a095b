use Rattle.std.proofs.Common.{sym}
use Rattle.tl_machine.proofs.TurnLemmas.{comes_turn}
use Rattle.tl_machine.proofs.turn.Turn.run_local.Goals as goal

pub stop_at-requires-clause-turn : goal.stop_at-requires-clause-turn
stop_at-requires-clause-turn c =
    rw (c.deref-2.ensures, c.deref-3.ensures) (comes_turn _ _ _ _ c.self.invariant (rw c.deref.ensures at c.run_local-pending.ensures.follows))

pub stop_at-requires-clause-stops : goal.stop_at-requires-clause-stops
stop_at-requires-clause-stops c = rw c.deref-2.ensures (rw c.deref.ensures at c.run_local-pending.ensures.stop)

pub invariant_of-self : goal.invariant_of-self
invariant_of-self c = comes_turn _ _ _ _ c.self.invariant (rw c.deref.ensures at c.run_local-pending.ensures.follows)

pub returns-clause-segment : goal.returns-clause-segment
returns-clause-segment c =
    let follows = rw c.deref.ensures at c.run_local-pending.ensures.follows in
    rw (sym c.self.view_is) (record {
      from = c.self.invariant;
      to = comes_turn _ _ _ _ c.self.invariant follows;
      follows = follows;
      stop = rw (c.deref-2.ensures, c.deref-3.ensures) at c.stop_at.ensures;
    })
