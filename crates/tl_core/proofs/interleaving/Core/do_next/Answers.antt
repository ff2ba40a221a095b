use Rattle.std.proofs.Common.{sym, ap, ◌∙◌, subst, arith}
use Rattle.tl_machine.specs.Turns.{Stops}
use Rattle.tl_core.proofs.OpenCall.{at_read, slot_read, kept_here, whole_then, seen_on, turn_then, turns_then, over_state}
use Rattle.tl_core.proofs.StepExits.{local_answer, local_seen, local_kept}
use Rattle.tl_core.proofs.interleaving.Core.do_next.Goals as goal

pub returns-in_default-clause-answer : goal.returns-in_default-clause-answer
returns-in_default-clause-answer c =
    rw (← c.self.view_is) (over_state _ _ _ _ _ _ _ c.self.invariant c.args.call c.index.result.now (omega arith) c.index.ensures (sym c.slot.ensures ∙ c.in_default.is))

pub index_mut-requires : goal.index_mut-requires
index_mut-requires c =
    let slot = slot_read _ _ _ _ _ _ _ c.self.invariant c.args.call c.in-Some.slot c.index.result.now (omega arith) c.index.ensures (sym c.slot.ensures ∙ c.in-Some.is) in
    omega arith

pub invariant_of-self : goal.invariant_of-self
invariant_of-self c =
    let p = at_read _ _ _ _ _ _ _ c.self.invariant c.args.call c.in-Some.slot c.index.result.now c.index_mut.result.now (omega arith) c.index.ensures (sym c.slot.ensures ∙ c.in-Some.is) c.index_mut.ensures.value in
    let k = kept_here _ _ _ _ _ _ _ c.self.invariant c.args.call c.in-Some.slot c.index.result.now c.index_mut.result.now p in
    whole_then _ _ _ _ _ _ _ c.self.invariant c.args.call c.in-Some.slot c.index.result.now c.index_mut.result.now p c.advance.new.self c.index_mut.result.now.places (ap (λ t. t.code) c.in-Did.ensures.same) c.self.inside.history.past c.self.inside.history.limit _ _ c.self.inside.history.reserved (local_kept _ _ _ _ _ _ c.self.invariant.core c.args.call _ k c.in-Did.action c.advance.new.self c.in-Did.ensures.same c.in-Did.ensures.steps) _ c.self.invariant.room

pub pass_stop-requires : goal.pass_stop-requires
pass_stop-requires c =
    let p = at_read _ _ _ _ _ _ _ c.self.invariant c.args.call c.in-Some.slot c.index.result.now c.index_mut.result.now (omega arith) c.index.ensures (sym c.slot.ensures ∙ c.in-Some.is) c.index_mut.ensures.value in
    let unchanged = c.in-Stopped.ensures.unchanged in (
      c.advance.new.self,
      turn_then _ _ _ _ _ _ _ c.self.invariant c.args.call c.in-Some.slot c.index.result.now c.index_mut.result.now p c.advance.new.self c.index_mut.result.now.places (ap (λ t. t.code) unchanged),
      subst (λ t. Stops t c.in-Stopped.stop) (sym unchanged) c.in-Stopped.ensures.stops,
    )

pub returns-in-Did-clause-answer : goal.returns-in-Did-clause-answer
returns-in-Did-clause-answer c =
    let p = at_read _ _ _ _ _ _ _ c.self.invariant c.args.call c.in-Some.slot c.index.result.now c.index_mut.result.now (omega arith) c.index.ensures (sym c.slot.ensures ∙ c.in-Some.is) c.index_mut.ensures.value in
    let k = kept_here _ _ _ _ _ _ _ c.self.invariant c.args.call c.in-Some.slot c.index.result.now c.index_mut.result.now p in
    rw (← c.self.view_is) (local_answer _ _ _ _ _ _ c.self.invariant.core c.args.call _ k c.in-Did.action c.advance.new.self c.in-Did.ensures.same c.in-Did.ensures.steps)

pub returns-in-Did-clause-after : goal.returns-in-Did-clause-after
returns-in-Did-clause-after c =
    let p = at_read _ _ _ _ _ _ _ c.self.invariant c.args.call c.in-Some.slot c.index.result.now c.index_mut.result.now (omega arith) c.index.ensures (sym c.slot.ensures ∙ c.in-Some.is) c.index_mut.ensures.value in
    let k = kept_here _ _ _ _ _ _ _ c.self.invariant c.args.call c.in-Some.slot c.index.result.now c.index_mut.result.now p in
    rw (← c.self.view_is) (seen_on _ _ _ _ _ _ _ c.self.invariant c.args.call c.in-Some.slot c.index.result.now c.index_mut.result.now p c.advance.new.self c.index_mut.result.now.places (ap (λ t. t.code) c.in-Did.ensures.same) c.self.inside.history.past c.self.inside.history.limit ∙ local_seen _ _ _ _ _ _ c.self.invariant.core c.args.call _ k c.in-Did.action c.advance.new.self c.in-Did.ensures.same c.in-Did.ensures.steps)

pub returns-in-Did-clause-turns : goal.returns-in-Did-clause-turns
returns-in-Did-clause-turns c =
    let p = at_read _ _ _ _ _ _ _ c.self.invariant c.args.call c.in-Some.slot c.index.result.now c.index_mut.result.now (omega arith) c.index.ensures (sym c.slot.ensures ∙ c.in-Some.is) c.index_mut.ensures.value in
    rw (← c.self.view_is) (turns_then _ _ _ _ _ _ _ c.self.invariant c.args.call c.in-Some.slot c.index.result.now c.index_mut.result.now p c.advance.new.self c.index_mut.result.now.places (ap (λ t. t.code) c.in-Did.ensures.same))
