use Rattle.tl_machine.proofs.TurnLemmas.{turn_at_stop}
use Rattle.tl_machine.proofs.call.CallState.stop.Goals as goal

pub unreachable-requires : goal.unreachable-requires
unreachable-requires c = turn_at_stop _ _ _ c.requires.turn c.requires.stop (rw c.in-Local.is at c.want.ensures)
