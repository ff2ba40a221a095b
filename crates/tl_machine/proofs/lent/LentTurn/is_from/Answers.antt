use Rattle.std.proofs.Common.{sym}
use Rattle.std.specs.Arc.{arc_value}
use Rattle.tl_machine.proofs.SameStates.{from_here, from_elsewhere}
use Rattle.tl_machine.proofs.lent.LentTurn.is_from.Goals as goal

pub returns-then-is-clause-same : goal.returns-then-is-clause-same
returns-then-is-clause-same c =
    rw (sym c.self.view_is)
    (from_here c.args.turn.now (record { code = arc_value c.self.inside.procedure; from = c.self.inside.from; to = c.self.inside.to }) c.is-then-is.result
    (rw c.call.ensures.state at (c.is.ensures.0 c.if-is.true))
    (rw (c.deref.ensures, c.procedure.ensures, c.deref-then-is.ensures) at c.is-then-is.ensures))

pub returns-else-is-clause-same : goal.returns-else-is-clause-same
returns-else-is-clause-same c =
    rw (sym c.self.view_is)
    (from_elsewhere c.args.turn.now (record { code = arc_value c.self.inside.procedure; from = c.self.inside.from; to = c.self.inside.to }) c.is.result
    (rw c.call.ensures.state at c.is.ensures) c.if-is.false)
