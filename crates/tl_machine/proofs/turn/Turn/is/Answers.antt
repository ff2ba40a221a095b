use Rattle.std.proofs.Common.{sym}
use Rattle.tl_machine.proofs.SameStates.{alike_turns, other_turns}
use Rattle.tl_machine.proofs.turn.Turn.is.Goals as goal

pub returns-then-is : goal.returns-then-is
returns-then-is c =
    alike_turns c.args.self.now c.args.other.now c.is_alike.result (rw (sym c.self.view_is, sym c.other.view_is) (c.is.ensures.0 c.if-is.true)) c.is_alike.ensures

pub returns-else-is : goal.returns-else-is
returns-else-is c = other_turns c.args.self.now c.args.other.now c.is.result (rw (sym c.self.view_is, sym c.other.view_is) c.is.ensures) c.if-is.false
