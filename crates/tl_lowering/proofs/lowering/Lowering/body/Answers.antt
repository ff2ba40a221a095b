use Rattle.std.proofs.Common.{refl, ap, subst}
use Rattle.tl_lowering.specs.declared.paths.TheConstants.Held.{NOTHING}
use Rattle.tl_lowering.specs.Names.{names_in}
use Rattle.tl_lowering.specs.Passing.{nothing_before}
use Rattle.tl_lowering.specs.Paths.{bits}
use Rattle.tl_lowering.specs.Scopes.{view_of, IsLowered}
use Rattle.tl_lowering.proofs.BodyLemmas.{whole_sound, whole_handled, plain_body, told_body}
use Rattle.tl_lowering.proofs.EnterLemmas.{whole_enters}
use Rattle.tl_lowering.proofs.PathLemmas.{ok_more, ok_both}
use Rattle.tl_lowering.proofs.lowering.Lowering.body.Goals as goal

pub returns-in_default-clause-named : goal.returns-in_default-clause-named
returns-in_default-clause-named c =
    let b = c.in_ok-lowered.ensures in
    let block = rw c.nothing-nothing.ensures at b.named in
    let handled = rw c.nothing-nothing.ensures at c.in_ok-handled.ensures.named in
    ok_both c.completed.result _ _ _ c.completed.ensures.named c.completed.ensures.atomic
    (λ s w other. plain_body c.args.procedure.now c.in_default.is (ap names_in b.scope) c.deref.ensures.value c.deref-in_default.ensures.value block handled w c.in_ok-check_atomic.ensures other)

pub returns-in_default-clause-sound : goal.returns-in_default-clause-sound
returns-in_default-clause-sound c =
    let h = c.in_ok-handled in
    ok_more c.completed.result _ _ c.completed.ensures.named
    (λ s t. whole_sound {held = NOTHING} refl (subst (λ v. IsLowered v NOTHING h.handled h._flow) c.in_ok-lowered.ensures.scope h.ensures.lowered) t)

pub returns-in_default-clause-handled : goal.returns-in_default-clause-handled
returns-in_default-clause-handled c = ok_more c.completed.result _ _ c.completed.ensures.named (λ s t. whole_handled t)

pub returns-in_default-clause-enters : goal.returns-in_default-clause-enters
unfolding bits
returns-in_default-clause-enters c = ok_more c.completed.result _ _ c.completed.ensures.named (λ s t. whole_enters nothing_before t c.in_ok-handled.ensures.entering.once)

pub returns-clause-named : goal.returns-clause-named
returns-clause-named c =
    let told = c.in_ok-register.ensures in
    let block = rw c.nothing-nothing.ensures at told.named in
    let heard = rw c.nothing-nothing.ensures at c.in_ok-handled-2.ensures.named in
    ok_both c.completed-2.result _ _ _ c.completed-2.ensures.named c.completed-2.ensures.atomic
    (λ s w other. told_body c.args.procedure.now c.in-Some.is (ap names_in told.scope) c.deref-2.ensures.value c.deref-3.ensures.value told.fresh told.room block heard w c.in_ok-check_atomic-2.ensures other)

pub returns-clause-sound : goal.returns-clause-sound
returns-clause-sound c =
    let h = c.in_ok-handled-2 in
    ok_more c.completed-2.result _ _ c.completed-2.ensures.named
    (λ s t. whole_sound {held = NOTHING} refl (subst (λ v. IsLowered v NOTHING h.handled h._flow) c.in_ok-register.ensures.scope h.ensures.lowered) t)

pub returns-clause-handled : goal.returns-clause-handled
returns-clause-handled c = ok_more c.completed-2.result _ _ c.completed-2.ensures.named (λ s t. whole_handled t)

pub returns-clause-enters : goal.returns-clause-enters
unfolding bits
returns-clause-enters c = ok_more c.completed-2.result _ _ c.completed-2.ensures.named (λ s t. whole_enters nothing_before t c.in_ok-handled-2.ensures.entering.once)
