use Rattle.std.proofs.Common.{sym, ap, ◌∙◌, arith, subst, Some}
use Rattle.tl_machine.specs.Turns.{IsTurn, with_call}
use Rattle.tl_core.proofs.StoredCalls.{same_item}
use Rattle.tl_core.proofs.OpenCall.{at_read, slot_read, turned_inside, turn_same, turn_then, turns_then}
use Rattle.tl_core.proofs.LedCores.{at_its_end, same_code, whole_led, local_led, each_led, goes_led}
use Rattle.tl_core.proofs.interleaving.Core.take_end.Goals as goal

pub index_mut-requires : goal.index_mut-requires
index_mut-requires c =
    let kept = rw (← c.self.view_is) at c.requires.3 in
    let slot = slot_read _ _ _ _ _ _ _ c.self.invariant c.args.call c.in-Some.slot c.index.result.now (turned_inside _ _ _ _ _ _ _ c.self.invariant c.args.call _ kept) c.index.ensures (sym c.slot.ensures ∙ c.in-Some.is) in
    omega arith

pub put_at-requires : goal.put_at-requires
put_at-requires c =
    let kept = rw (← c.self.view_is) at c.requires.3 in
    let p = at_read _ _ _ _ _ _ _ c.self.invariant c.args.call c.in-Some.slot c.index.result.now c.index_mut.result.now (turned_inside _ _ _ _ _ _ _ c.self.invariant c.args.call _ kept) c.index.ensures (sym c.slot.ensures ∙ c.in-Some.is) c.index_mut.ensures.value in
    rw (← c.requires.2) (subst (λ t. IsTurn t.code.instrs t.parents c.requires.0.to) (sym (turn_same _ _ _ _ _ _ _ c.self.invariant c.args.call c.in-Some.slot c.index.result.now c.index_mut.result.now p c.requires.0.from kept)) c.requires.1.to)

pub invariant_of-self : goal.invariant_of-self
invariant_of-self c =
    let kept = rw (← c.self.view_is) at c.requires.3 in
    let p = at_read _ _ _ _ _ _ _ c.self.invariant c.args.call c.in-Some.slot c.index.result.now c.index_mut.result.now (turned_inside _ _ _ _ _ _ _ c.self.invariant c.args.call _ kept) c.index.ensures (sym c.slot.ensures ∙ c.in-Some.is) c.index_mut.ensures.value in
    let seg = c.requires.0 in
    whole_led _ _ _ _ _ _ _ c.self.invariant c.args.call seg kept c.requires.1 c.in-Some.slot c.index.result.now c.index_mut.result.now p c.put_at.new.self
    (at_its_end _ _ _ _ _ _ _ c.self.invariant c.args.call seg kept c.requires.1 c.in-Some.slot c.index.result.now c.index_mut.result.now p c.put_at.new.self (c.put_at.ensures ∙ ap (with_call c.index_mut.result.now.turn) (sym c.requires.2)))

pub returns-clause-turn : goal.returns-clause-turn
returns-clause-turn c t there =
    let kept = rw (← c.self.view_is) at c.requires.3 in
    let same = same_item (sym kept ∙ (rw (← c.self.view_is) at there)) in
    let p = at_read _ _ _ _ _ _ _ c.self.invariant c.args.call c.in-Some.slot c.index.result.now c.index_mut.result.now (turned_inside _ _ _ _ _ _ _ c.self.invariant c.args.call _ kept) c.index.ensures (sym c.slot.ensures ∙ c.in-Some.is) c.index_mut.ensures.value in
    let seg = c.requires.0 in
    let end = at_its_end _ _ _ _ _ _ _ c.self.invariant c.args.call seg kept c.requires.1 c.in-Some.slot c.index.result.now c.index_mut.result.now p c.put_at.new.self (c.put_at.ensures ∙ ap (with_call c.index_mut.result.now.turn) (sym c.requires.2)) in
    turn_then _ _ _ _ _ _ _ c.self.invariant c.args.call c.in-Some.slot c.index.result.now c.index_mut.result.now p c.put_at.new.self c.index_mut.result.now.places (same_code _ _ _ _ _ _ _ c.self.invariant c.args.call seg kept c.requires.1 c.in-Some.slot c.index.result.now c.index_mut.result.now p c.put_at.new.self end) ∙ ap Some end ∙ ap Some (ap (λ u. with_call u seg.to) same ∙ ap (with_call t) c.requires.2)

pub returns-clause-turns : goal.returns-clause-turns
returns-clause-turns c =
    let kept = rw (← c.self.view_is) at c.requires.3 in
    let p = at_read _ _ _ _ _ _ _ c.self.invariant c.args.call c.in-Some.slot c.index.result.now c.index_mut.result.now (turned_inside _ _ _ _ _ _ _ c.self.invariant c.args.call _ kept) c.index.ensures (sym c.slot.ensures ∙ c.in-Some.is) c.index_mut.ensures.value in
    let seg = c.requires.0 in
    let end = at_its_end _ _ _ _ _ _ _ c.self.invariant c.args.call seg kept c.requires.1 c.in-Some.slot c.index.result.now c.index_mut.result.now p c.put_at.new.self (c.put_at.ensures ∙ ap (with_call c.index_mut.result.now.turn) (sym c.requires.2)) in
    rw (← c.self.view_is) (turns_then _ _ _ _ _ _ _ c.self.invariant c.args.call c.in-Some.slot c.index.result.now c.index_mut.result.now p c.put_at.new.self c.index_mut.result.now.places (same_code _ _ _ _ _ _ _ c.self.invariant c.args.call seg kept c.requires.1 c.in-Some.slot c.index.result.now c.index_mut.result.now p c.put_at.new.self end))

pub returns-clause-led : goal.returns-clause-led
returns-clause-led c =
    let kept = rw (← c.self.view_is) at c.requires.3 in
    let p = at_read _ _ _ _ _ _ _ c.self.invariant c.args.call c.in-Some.slot c.index.result.now c.index_mut.result.now (turned_inside _ _ _ _ _ _ _ c.self.invariant c.args.call _ kept) c.index.ensures (sym c.slot.ensures ∙ c.in-Some.is) c.index_mut.ensures.value in
    let seg = c.requires.0 in
    let end = at_its_end _ _ _ _ _ _ _ c.self.invariant c.args.call seg kept c.requires.1 c.in-Some.slot c.index.result.now c.index_mut.result.now p c.put_at.new.self (c.put_at.ensures ∙ ap (with_call c.index_mut.result.now.turn) (sym c.requires.2)) in
    rw (← c.self.view_is) (record {
      local = local_led _ _ _ _ _ _ _ c.self.invariant c.args.call seg kept c.requires.1 c.in-Some.slot c.index.result.now c.index_mut.result.now p c.put_at.new.self end;
      each_local = each_led _ _ _ _ _ _ _ c.self.invariant c.args.call seg kept c.requires.1 c.in-Some.slot c.index.result.now c.index_mut.result.now p c.put_at.new.self end;
      goes = goes_led _ _ _ _ _ _ _ c.self.invariant c.args.call seg kept c.requires.1 c.in-Some.slot c.index.result.now c.index_mut.result.now p c.put_at.new.self end;
    })
