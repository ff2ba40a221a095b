use Rattle.std.proofs.Common.{◌<◌, length, refl, ap, ◌∙◌, subst, arith}
use Rattle.tl_machine.specs.Turns.{with_call}
use Rattle.tl_core.specs.declared.followed.TurnOutcome.{TurnOutcome}
use Rattle.tl_core.specs.declared.followed.TurnOutcome.TheVariants.{Advanced, Finished}
use Rattle.tl_core.specs.Followed.{Submits}
use Rattle.tl_table.proofs.Going.{gone_same, same_goes_on}
use Rattle.tl_table.proofs.Submitted.{gone, table_went, table_finished}
use Rattle.tl_table.proofs.epoch.Epoch.lead.Goals as goal

pub invariant_of-self : goal.invariant_of-self
invariant_of-self c =
    let F : TurnOutcome → Type 0 = λ o. Submits c.self.inside.running c.args.call c.args.lent.now c.lead.new.lent o c.lead.new.self in
    let h : F (Advanced c.in-Ok-Advanced.stop) = subst F c.in-Ok-Advanced.field-0-is c.in-Ok-Advanced.ensures.ok in
    let turn_of = rw c.core-in-Ok-Advanced.ensures at c.lemma_is_sound-in-Ok-Advanced.ensures.turn_of in
    let is_open = (turn_of c.args.call (with_call h.segment.from c.lead.new.lent.to) h.led.2).is_open in
    table_went _ _ _ _ c.self.invariant c.lead.new.self c.args.call (gone c.self.inside.running c.lead.new.self c.args.call h.segment h.led.0) is_open.1

pub invariant_of-self-in-Ok-Finished : goal.invariant_of-self-in-Ok-Finished
invariant_of-self-in-Ok-Finished c =
    let F : TurnOutcome → Type 0 = λ o. Submits c.self.inside.running c.args.call c.args.lent.now c.lead.new.lent o c.lead.new.self in
    let h : F Finished = subst F c.in-Ok-Finished.field-0-is c.in-Ok-Finished.ensures.ok in
    let turn_of = rw c.core.ensures at c.lemma_is_sound.ensures.turn_of in
    let is_open = (turn_of c.args.call h.segment.from h.kept).is_open in
    let counted = rw c.core.ensures at c.lemma_is_sound.ensures.counted in
    let known : c.args.call < length c.self.inside.running.seen.calls = omega (arith, is_open.0, counted) in
    table_finished _ _ _ _ c.self.invariant c.lead.new.self c.args.call (gone c.self.inside.running c.lead.new.self c.args.call h.segment h.led.0)
    known counted is_open.1 h.led.2 c.calls.result (c.calls.ensures.count ∙ ap (λ s. length s.seen.calls) c.core-in-Ok-Finished.ensures) _ refl _ refl

pub index_mut-requires : goal.index_mut-requires
index_mut-requires c =
    let F : TurnOutcome → Type 0 = λ o. Submits c.self.inside.running c.args.call c.args.lent.now c.lead.new.lent o c.lead.new.self in
    let h : F Finished = subst F c.in-Ok-Finished.field-0-is c.in-Ok-Finished.ensures.ok in
    let turn_of = rw c.core.ensures at c.lemma_is_sound.ensures.turn_of in
    let is_open = (turn_of c.args.call h.segment.from h.kept).is_open in
    let calls = rw c.core.ensures at c.lemma_is_sound.ensures.counted in
    let counted = c.self.invariant.counted in
    omega (arith, is_open.0, calls, counted)

pub returns-in-Ok-Advanced-clause-keeps : goal.returns-in-Ok-Advanced-clause-keeps
returns-in-Ok-Advanced-clause-keeps c =
    let F : TurnOutcome → Type 0 = λ o. Submits c.self.inside.running c.args.call c.args.lent.now c.lead.new.lent o c.lead.new.self in
    let h : F (Advanced c.in-Ok-Advanced.stop) = subst F c.in-Ok-Advanced.field-0-is c.in-Ok-Advanced.ensures.ok in
    rw (← c.self.view_is) (record { sessions = refl; owners = refl; goes_on = same_goes_on _ _ refl (gone_same c.self.inside.running c.lead.new.self c.args.call h.segment h.led.0) })

pub returns-in-Ok-Finished-clause-keeps : goal.returns-in-Ok-Finished-clause-keeps
returns-in-Ok-Finished-clause-keeps c =
    let F : TurnOutcome → Type 0 = λ o. Submits c.self.inside.running c.args.call c.args.lent.now c.lead.new.lent o c.lead.new.self in
    let h : F Finished = subst F c.in-Ok-Finished.field-0-is c.in-Ok-Finished.ensures.ok in
    rw (← c.self.view_is) (record { sessions = refl; owners = refl; goes_on = same_goes_on _ _ refl (gone_same c.self.inside.running c.lead.new.self c.args.call h.segment h.led.0) })
