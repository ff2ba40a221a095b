use Rattle.std.proofs.Common.{sym}
use Rattle.tl_machine.specs.declared.want.Want.TheVariants as want
use Rattle.tl_machine.specs.declared.want.Stop.TheVariants as stop
use Rattle.tl_machine.proofs.TurnLemmas.{stands_wants, is_at_lock, is_at_free}
use Rattle.tl_machine.proofs.lent.LentTurn.repeat.Goals as goal

pub lock-requires-clause-stands : goal.lock-requires-clause-stands
lock-requires-clause-stands c =
    let turn = rw (sym c.self.view_is) at c.requires.to in
    let wants = rw (sym c.self.view_is) at (c.requires.lock c.in-Lock.node c.in-Lock.found c.in-Lock.is) in
    rw c.deref.ensures (stands_wants _ _ _ (want.Stop (stop.Lock c.in-Lock.node)) turn (λ e. cc) wants)

pub lock-requires-clause-lock : goal.lock-requires-clause-lock
lock-requires-clause-lock c =
    let turn = rw (sym c.self.view_is) at c.requires.to in
    let wants = rw (sym c.self.view_is) at (c.requires.lock c.in-Lock.node c.in-Lock.found c.in-Lock.is) in
    let st = stands_wants _ _ _ (want.Stop (stop.Lock c.in-Lock.node)) turn (λ e. cc) wants in
    rw c.deref.ensures (is_at_lock _ _ _ st st.counters c.in-Lock.node wants)

pub free-left-requires-clause-stands : goal.free-left-requires-clause-stands
free-left-requires-clause-stands c =
    let turn = rw (sym c.self.view_is) at c.requires.to in
    let wants = rw (sym c.self.view_is) at (c.requires.free c.in-Free.node c.in-Free.left c.in-Free.is) in
    rw c.deref-in-Free.ensures (stands_wants _ _ _ (want.Stop (stop.Free c.in-Free.node)) turn (λ e. cc) wants)

pub free-left-requires-clause-free : goal.free-left-requires-clause-free
free-left-requires-clause-free c =
    let turn = rw (sym c.self.view_is) at c.requires.to in
    let wants = rw (sym c.self.view_is) at (c.requires.free c.in-Free.node c.in-Free.left c.in-Free.is) in
    let st = stands_wants _ _ _ (want.Stop (stop.Free c.in-Free.node)) turn (λ e. cc) wants in
    let at = is_at_free _ _ _ st st.counters c.in-Free.node wants in
    rw c.deref-in-Free.ensures (at.0, at.1)
