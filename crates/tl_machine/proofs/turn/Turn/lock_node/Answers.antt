use Rattle.std.proofs.Common.{sym}
use Rattle.tl_machine.specs.declared.want.Want.TheVariants as want
use Rattle.tl_machine.specs.declared.want.Stop.TheVariants as stop
use Rattle.tl_machine.proofs.TurnLemmas.{stands_wants, is_at_lock}
use Rattle.tl_machine.proofs.turn.Turn.lock_node.Goals as goal

pub lock-requires-clause-stands : goal.lock-requires-clause-stands
lock-requires-clause-stands c =
    let wants = rw (sym c.self.view_is) at c.requires in
    rw (c.deref.ensures, c.deref-2.ensures) (stands_wants _ _ _ (want.Stop (stop.Lock c.args.node)) c.self.invariant (λ e. cc) wants)

pub lock-requires-clause-lock : goal.lock-requires-clause-lock
lock-requires-clause-lock c =
    let wants = rw (sym c.self.view_is) at c.requires in
    let st = stands_wants _ _ _ (want.Stop (stop.Lock c.args.node)) c.self.invariant (λ e. cc) wants in
    rw (c.deref.ensures, c.deref-2.ensures) (is_at_lock _ _ _ st st.counters c.args.node wants)
