use Rattle.std.proofs.Common.{sym}
use Rattle.tl_machine.proofs.lent.LentTurn.stop.Goals as goal

pub stop_at-requires-clause-stops : goal.stop_at-requires-clause-stops
stop_at-requires-clause-stops c = rw c.deref.ensures (rw c.in-Some.is at c.self.invariant.1)

pub stop-requires-clause-stop : goal.stop-requires-clause-stop
stop-requires-clause-stop c = rw c.deref-in-None.ensures (rw (sym c.self.view_is) at c.requires.stop)
