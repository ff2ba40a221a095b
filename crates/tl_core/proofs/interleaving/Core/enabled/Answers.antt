use Rattle.std.proofs.Common.{refl, sym, ◌∙◌, subst, arith}
use Rattle.tl_machine.specs.Turns.{Wants, Stops}
use Rattle.tl_machine.specs.declared.want.Want.TheVariants as want
use Rattle.tl_machine.specs.declared.want.Stop.TheVariants as stop
use Rattle.tl_core.proofs.OpenCall.{at_read, slot_read, kept_here, done_disabled, goes_on}
use Rattle.tl_core.proofs.StepExits.{holder_slot, holder_read}
use Rattle.tl_core.proofs.EnabledLemmas.{unlocking, lock_enabled, goes_on_enabled}
use Rattle.tl_core.proofs.interleaving.Core.enabled.Goals as goal

pub returns-in_default-clause-enabled : goal.returns-in_default-clause-enabled
returns-in_default-clause-enabled c =
    rw (← c.self.view_is) ((λ t. absurd cc), (λ e. absurd (done_disabled _ _ _ _ _ _ _ c.self.invariant c.args.call c.index.result.now (omega arith) c.index.ensures (sym c.slot.ensures ∙ c.in_default.is) e)))

pub index-requires-2 : goal.index-requires-2
index-requires-2 c =
    let slot = slot_read _ _ _ _ _ _ _ c.self.invariant c.args.call c.in-Some.slot c.index.result.now (omega arith) c.index.ensures (sym c.slot.ensures ∙ c.in-Some.is) in
    omega arith

pub returns-in_default-want-clause-enabled : goal.returns-in_default-want-clause-enabled
returns-in_default-want-clause-enabled c =
    let p = at_read _ _ _ _ _ _ _ c.self.invariant c.args.call c.in-Some.slot c.index.result.now c.index-2.result.now (omega arith) c.index.ensures (sym c.slot.ensures ∙ c.in-Some.is) c.index-2.ensures in
    let k = kept_here _ _ _ _ _ _ _ c.self.invariant c.args.call c.in-Some.slot c.index.result.now c.index-2.result.now p in
    rw (← c.self.view_is) ((λ t. goes_on_enabled _ _ _ _ _ _ c.self.invariant.core c.args.call _ k c.want.result c.want.ensures (λ e. c.in_default-want.not-Stop stop.Over e) (λ x e. c.in_default-want.not-Stop (stop.Lock x) e)), (λ e. refl))

pub index-requires-in-Lock : goal.index-requires-in-Lock
index-requires-in-Lock c =
    let p = at_read _ _ _ _ _ _ _ c.self.invariant c.args.call c.in-Some.slot c.index.result.now c.index-2.result.now (omega arith) c.index.ensures (sym c.slot.ensures ∙ c.in-Some.is) c.index-2.ensures in
    let k = kept_here _ _ _ _ _ _ _ c.self.invariant c.args.call c.in-Some.slot c.index.result.now c.index-2.result.now p in
    let slot = holder_slot _ _ _ _ _ _ c.self.invariant.core c.args.call _ k c.in-Lock.node (subst (Stops c.index-2.result.now.turn) c.in-Lock.is (subst (Wants c.index-2.result.now.turn) c.in-Stop.is c.want.ensures)) in
    omega arith

pub unreachable-requires : goal.unreachable-requires
unreachable-requires c =
    let p = at_read _ _ _ _ _ _ _ c.self.invariant c.args.call c.in-Some.slot c.index.result.now c.index-2.result.now (omega arith) c.index.ensures (sym c.slot.ensures ∙ c.in-Some.is) c.index-2.ensures in
    goes_on _ _ _ _ _ _ _ c.self.invariant c.args.call c.in-Some.slot c.index.result.now c.index-2.result.now p (subst (Stops c.index-2.result.now.turn) c.in-Over.is (subst (Wants c.index-2.result.now.turn) c.in-Stop.is c.want.ensures))

pub returns-in-Lock-clause-enabled : goal.returns-in-Lock-clause-enabled
returns-in-Lock-clause-enabled c =
    let p = at_read _ _ _ _ _ _ _ c.self.invariant c.args.call c.in-Some.slot c.index.result.now c.index-2.result.now (omega arith) c.index.ensures (sym c.slot.ensures ∙ c.in-Some.is) c.index-2.ensures in
    let k = kept_here _ _ _ _ _ _ _ c.self.invariant c.args.call c.in-Some.slot c.index.result.now c.index-2.result.now p in
    let slot = holder_slot _ _ _ _ _ _ c.self.invariant.core c.args.call _ k c.in-Lock.node (subst (Stops c.index-2.result.now.turn) c.in-Lock.is (subst (Wants c.index-2.result.now.turn) c.in-Stop.is c.want.ensures)) in
    let held = holder_read c.self.inside.holders.items c.in-Lock.node c.in-Lock.node c.index-in-Lock.result.now c.index-in-Lock.result.now refl (omega arith) c.index-in-Lock.ensures refl in
    rw (← c.self.view_is) (lock_enabled _ _ _ _ _ _ c.self.invariant.core c.args.call _ k c.in-Lock.node (subst (Stops c.index-2.result.now.turn) c.in-Lock.is (subst (Wants c.index-2.result.now.turn) c.in-Stop.is c.want.ensures)) c.index-in-Lock.result.now held c.is_none.result c.is_none.ensures)

pub returns-in-Free-clause-enabled : goal.returns-in-Free-clause-enabled
returns-in-Free-clause-enabled c =
    let p = at_read _ _ _ _ _ _ _ c.self.invariant c.args.call c.in-Some.slot c.index.result.now c.index-2.result.now (omega arith) c.index.ensures (sym c.slot.ensures ∙ c.in-Some.is) c.index-2.ensures in
    let k = kept_here _ _ _ _ _ _ _ c.self.invariant c.args.call c.in-Some.slot c.index.result.now c.index-2.result.now p in
    rw (← c.self.view_is) ((λ t. goes_on_enabled _ _ _ _ _ _ c.self.invariant.core c.args.call _ k (want.Stop c.in-Stop.stop) (subst (Wants c.index-2.result.now.turn) c.in-Stop.is c.want.ensures) (unlocking c.in-Stop.stop c.in-Free.is).0 (unlocking c.in-Stop.stop c.in-Free.is).1), (λ e. refl))
