use Rattle.std.proofs.Common.{sym}
use Rattle.tl_machine.specs.declared.want.Want.TheVariants as want
use Rattle.tl_machine.specs.declared.want.Stop.TheVariants as stop
use Rattle.tl_machine.proofs.TurnLemmas.{stands_wants, is_at_free, free_wanted}
use Rattle.tl_machine.proofs.turn.Turn.free.Goals as goal

pub free-requires-clause-stands : goal.free-requires-clause-stands
free-requires-clause-stands c =
    let wants = rw (sym c.self.view_is) at c.requires in
    rw (c.deref.ensures, c.deref-2.ensures) (stands_wants _ _ _ (want.Stop (stop.Free wants.0)) c.self.invariant (λ e. cc) wants.1)

pub free-requires-clause-free : goal.free-requires-clause-free
free-requires-clause-free c =
    let wants = rw (sym c.self.view_is) at c.requires in
    let st = stands_wants _ _ _ (want.Stop (stop.Free wants.0)) c.self.invariant (λ e. cc) wants.1 in
    let at = is_at_free _ _ _ st st.counters wants.0 wants.1 in
    rw c.deref.ensures (at.0, at.1)

pub returns-clause-frees : goal.returns-clause-frees
returns-clause-frees c =
    let wants = rw (sym c.self.view_is) at c.requires in
    let st = stands_wants _ _ _ (want.Stop (stop.Free wants.0)) c.self.invariant (λ e. cc) wants.1 in
    let f = rw (c.deref.ensures, c.deref-2.ensures) at c.free.ensures.frees in
    rw (sym c.self.view_is) (f.0.node, free_wanted _ _ _ st st.counters f.0 f.1, f.2)
