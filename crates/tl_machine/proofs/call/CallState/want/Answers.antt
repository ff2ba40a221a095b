use Rattle.std.proofs.Common.{sym}
use Rattle.tl_machine.proofs.TurnLemmas.{stands_running, wants_waits}
use Rattle.tl_machine.proofs.call.CallState.want.Goals as goal

pub returns : goal.returns
returns c =
    let st = stands_running _ _ _ c.requires c.if-self.false in
    let next = c.next_want.ensures in
    wants_waits _ _ _ st st.counters next.0 c.next_want.result next.1 (sym next.2)
