use Rattle.std.proofs.Common.{sym}
use Rattle.tl_machine.specs.declared.want.Want.TheVariants as want
use Rattle.tl_machine.specs.declared.want.Stop.TheVariants as stop
use Rattle.tl_machine.specs.Turns.{over}
use Rattle.tl_machine.proofs.TurnLemmas.{stands_wants, is_at_return, ended_over}
use Rattle.tl_machine.proofs.turn.Turn.finish.Goals as goal

pub finish-requires-clause-stands : goal.finish-requires-clause-stands
finish-requires-clause-stands c = rw (c.deref.ensures, c.deref-2.ensures) (stands_wants _ _ _ (want.Stop stop.Return) c.self.invariant (λ e. cc) (rw (sym c.self.view_is) at c.requires))

pub finish-requires-clause-end : goal.finish-requires-clause-end
finish-requires-clause-end c =
    let st = stands_wants _ _ _ (want.Stop stop.Return) c.self.invariant (λ e. cc) (rw (sym c.self.view_is) at c.requires) in
    rw c.deref.ensures (is_at_return _ _ _ st st.counters (rw (sym c.self.view_is) at c.requires))

pub invariant_of-self : goal.invariant_of-self
invariant_of-self c =
    let st = stands_wants _ _ _ (want.Stop stop.Return) c.self.invariant (λ e. cc) (rw (sym c.self.view_is) at c.requires) in
    over (ended_over _ _ _ c.finish.new.self st (rw (c.deref.ensures, c.deref-2.ensures) at c.finish.ensures))
