use Rattle.std.proofs.Common.{◌≡◌, ◌-◌, refl, sym, ap, ◌∙◌, subst, arith, Some, None}
use Rattle.tl_tree_locking.specs.declared.action.Action.TheVariants as did
use Rattle.tl_machine.specs.Turns.{Stops}
use Rattle.tl_machine.specs.declared.want.Stop.TheVariants as stop
use Rattle.tl_core.proofs.OpenCall.{at_read, slot_read, turned_inside, turn_same, kept_here, whole_then, seen_on, turn_then, turns_then}
use Rattle.tl_core.proofs.KeptTurns.{kept_with, turned_by}
use Rattle.tl_core.proofs.StepExits.{holder_slot, record_slot, has_place, has_reserved, blocked_answer, lock_answer, lock_seen, lock_kept, holder_read}
use Rattle.tl_core.proofs.interleaving.Core.lock_or_block.Goals as goal

pub index_mut-current-requires : goal.index_mut-current-requires
index_mut-current-requires c =
    let kept = rw (← c.self.view_is) at c.requires.1 in
    let inside = turned_inside _ _ _ _ _ _ _ c.self.invariant c.args.call c.requires.0 kept in
    let slot = slot_read _ _ _ _ _ _ _ c.self.invariant c.args.call c.in-Some.slot c.index.result.now inside c.index.ensures (sym c.slot.ensures ∙ c.in-Some.is) in
    omega arith

pub index-held_by-requires : goal.index-held_by-requires
index-held_by-requires c =
    let kept = rw (← c.self.view_is) at c.requires.1 in
    let k = kept_with _ _ _ _ _ _ _ c.self.invariant c.args.call c.requires.0 kept in
    let stops = subst (λ t. Stops t (stop.Lock c.args.node)) (sym k.turn) c.requires.2 in
    let slot = holder_slot _ _ _ _ _ _ c.self.invariant.core c.args.call _ k.there c.args.node stops in
    omega arith

pub returns-in-Some-held_by-clause-answer : goal.returns-in-Some-held_by-clause-answer
returns-in-Some-held_by-clause-answer c =
    let kept = rw (← c.self.view_is) at c.requires.1 in
    let k = kept_with _ _ _ _ _ _ _ c.self.invariant c.args.call c.requires.0 kept in
    let stops = subst (λ t. Stops t (stop.Lock c.args.node)) (sym k.turn) c.requires.2 in
    let slot = holder_slot _ _ _ _ _ _ c.self.invariant.core c.args.call _ k.there c.args.node stops in
    let held = holder_read c.self.inside.holders.items c.args.node c.args.node c.index-held_by.result.now (Some c.in-Some-held_by.holder) refl (omega arith) c.index-held_by.ensures c.in-Some-held_by.is in
    rw (← c.self.view_is) (blocked_answer _ _ _ _ _ _ c.self.invariant.core c.args.call _ k.there c.args.node stops c.in-Some-held_by.holder held)

pub record_at-found-requires : goal.record_at-found-requires
record_at-found-requires c =
    let kept = rw (← c.self.view_is) at c.requires.1 in
    let inside = turned_inside _ _ _ _ _ _ _ c.self.invariant c.args.call c.requires.0 kept in
    let p = at_read _ _ _ _ _ _ _ c.self.invariant c.args.call c.in-Some.slot c.index.result.now c.index_mut-current.result.now inside c.index.ensures (sym c.slot.ensures ∙ c.in-Some.is) c.index_mut-current.ensures.value in
    let k = kept_here _ _ _ _ _ _ _ c.self.invariant c.args.call c.in-Some.slot c.index.result.now c.index_mut-current.result.now p in
    let stops = subst (λ t. Stops t (stop.Lock c.args.node)) (sym (turn_same _ _ _ _ _ _ _ c.self.invariant c.args.call c.in-Some.slot c.index.result.now c.index_mut-current.result.now p c.requires.0 kept)) c.requires.2 in
    record_slot _ _ _ _ _ _ c.self.invariant.core c.args.call _ k c.args.node stops

pub lock_node-requires : goal.lock_node-requires
lock_node-requires c =
    let kept = rw (← c.self.view_is) at c.requires.1 in
    let inside = turned_inside _ _ _ _ _ _ _ c.self.invariant c.args.call c.requires.0 kept in
    let p = at_read _ _ _ _ _ _ _ c.self.invariant c.args.call c.in-Some.slot c.index.result.now c.index_mut-current.result.now inside c.index.ensures (sym c.slot.ensures ∙ c.in-Some.is) c.index_mut-current.ensures.value in
    let stops = subst (λ t. Stops t (stop.Lock c.args.node)) (sym (turn_same _ _ _ _ _ _ _ c.self.invariant c.args.call c.in-Some.slot c.index.result.now c.index_mut-current.result.now p c.requires.0 kept)) c.requires.2 in
    stops

pub overflow_sub-current : goal.overflow_sub-current
overflow_sub-current c =
    let kept = rw (← c.self.view_is) at c.requires.1 in
    let inside = turned_inside _ _ _ _ _ _ _ c.self.invariant c.args.call c.requires.0 kept in
    let p = at_read _ _ _ _ _ _ _ c.self.invariant c.args.call c.in-Some.slot c.index.result.now c.index_mut-current.result.now inside c.index.ensures (sym c.slot.ensures ∙ c.in-Some.is) c.index_mut-current.ensures.value in
    let k = kept_here _ _ _ _ _ _ _ c.self.invariant c.args.call c.in-Some.slot c.index.result.now c.index_mut-current.result.now p in
    let stops = subst (λ t. Stops t (stop.Lock c.args.node)) (sym (turn_same _ _ _ _ _ _ _ c.self.invariant c.args.call c.in-Some.slot c.index.result.now c.index_mut-current.result.now p c.requires.0 kept)) c.requires.2 in
    let place = has_place _ _ _ _ _ _ c.self.invariant.core c.args.call _ k c.args.node stops in
    omega arith

pub index_mut-requires : goal.index_mut-requires
index_mut-requires c =
    let kept = rw (← c.self.view_is) at c.requires.1 in
    let inside = turned_inside _ _ _ _ _ _ _ c.self.invariant c.args.call c.requires.0 kept in
    let p = at_read _ _ _ _ _ _ _ c.self.invariant c.args.call c.in-Some.slot c.index.result.now c.index_mut-current.result.now inside c.index.ensures (sym c.slot.ensures ∙ c.in-Some.is) c.index_mut-current.ensures.value in
    let k = kept_here _ _ _ _ _ _ _ c.self.invariant c.args.call c.in-Some.slot c.index.result.now c.index_mut-current.result.now p in
    let stops = subst (λ t. Stops t (stop.Lock c.args.node)) (sym (turn_same _ _ _ _ _ _ _ c.self.invariant c.args.call c.in-Some.slot c.index.result.now c.index_mut-current.result.now p c.requires.0 kept)) c.requires.2 in
    let slot = holder_slot _ _ _ _ _ _ c.self.invariant.core c.args.call _ k c.args.node stops in
    omega arith

pub append-requires : goal.append-requires
append-requires c =
    let kept = rw (← c.self.view_is) at c.requires.1 in
    let inside = turned_inside _ _ _ _ _ _ _ c.self.invariant c.args.call c.requires.0 kept in
    let p = at_read _ _ _ _ _ _ _ c.self.invariant c.args.call c.in-Some.slot c.index.result.now c.index_mut-current.result.now inside c.index.ensures (sym c.slot.ensures ∙ c.in-Some.is) c.index_mut-current.ensures.value in
    let k = kept_here _ _ _ _ _ _ _ c.self.invariant c.args.call c.in-Some.slot c.index.result.now c.index_mut-current.result.now p in
    let stops = subst (λ t. Stops t (stop.Lock c.args.node)) (sym (turn_same _ _ _ _ _ _ _ c.self.invariant c.args.call c.in-Some.slot c.index.result.now c.index_mut-current.result.now p c.requires.0 kept)) c.requires.2 in
    has_reserved _ _ _ _ _ _ c.self.invariant.core c.args.call _ k c.args.node stops

pub invariant_of-self : goal.invariant_of-self
invariant_of-self c =
    let kept = rw (← c.self.view_is) at c.requires.1 in
    let inside = turned_inside _ _ _ _ _ _ _ c.self.invariant c.args.call c.requires.0 kept in
    let p = at_read _ _ _ _ _ _ _ c.self.invariant c.args.call c.in-Some.slot c.index.result.now c.index_mut-current.result.now inside c.index.ensures (sym c.slot.ensures ∙ c.in-Some.is) c.index_mut-current.ensures.value in
    let k = kept_here _ _ _ _ _ _ _ c.self.invariant c.args.call c.in-Some.slot c.index.result.now c.index_mut-current.result.now p in
    let stops = subst (λ t. Stops t (stop.Lock c.args.node)) (sym (turn_same _ _ _ _ _ _ _ c.self.invariant c.args.call c.in-Some.slot c.index.result.now c.index_mut-current.result.now p c.requires.0 kept)) c.requires.2 in
    let slot = holder_slot _ _ _ _ _ _ c.self.invariant.core c.args.call _ k c.args.node stops in
    let held = holder_read c.self.inside.holders.items c.args.node c.args.node c.index-held_by.result.now None refl (omega arith) c.index-held_by.ensures c.in_default-held_by.is in
    let same = c.lock_node.ensures.same in
    whole_then _ _ _ _ _ _ _ c.self.invariant c.args.call c.in-Some.slot c.index.result.now c.index_mut-current.result.now p c.lock_node.new.self (c.index_mut-current.result.now.places - 1) (ap (λ t. t.code) same) c.append.new.self.past c.append.new.self.limit _ _ c.append.new.self.reserved (lock_kept _ _ _ _ _ _ c.self.invariant.core c.args.call _ k c.args.node stops held c.record_at-found.result c.record_at-found.ensures c.lock_node.new.self same (c.lock_node.ensures.locks) c.append.new.self c.append.ensures) _ c.self.invariant.room

pub returns-clause-answer : goal.returns-clause-answer
returns-clause-answer c =
    let kept = rw (← c.self.view_is) at c.requires.1 in
    let inside = turned_inside _ _ _ _ _ _ _ c.self.invariant c.args.call c.requires.0 kept in
    let p = at_read _ _ _ _ _ _ _ c.self.invariant c.args.call c.in-Some.slot c.index.result.now c.index_mut-current.result.now inside c.index.ensures (sym c.slot.ensures ∙ c.in-Some.is) c.index_mut-current.ensures.value in
    let k = kept_here _ _ _ _ _ _ _ c.self.invariant c.args.call c.in-Some.slot c.index.result.now c.index_mut-current.result.now p in
    let stops = subst (λ t. Stops t (stop.Lock c.args.node)) (sym (turn_same _ _ _ _ _ _ _ c.self.invariant c.args.call c.in-Some.slot c.index.result.now c.index_mut-current.result.now p c.requires.0 kept)) c.requires.2 in
    let slot = holder_slot _ _ _ _ _ _ c.self.invariant.core c.args.call _ k c.args.node stops in
    let held = holder_read c.self.inside.holders.items c.args.node c.args.node c.index-held_by.result.now None refl (omega arith) c.index-held_by.ensures c.in_default-held_by.is in
    rw (← c.self.view_is) (lock_answer _ _ _ _ _ _ c.self.invariant.core c.args.call _ k c.args.node stops held c.record_at-found.result c.record_at-found.ensures)

pub returns-clause-after : goal.returns-clause-after
returns-clause-after c =
    let kept = rw (← c.self.view_is) at c.requires.1 in
    let inside = turned_inside _ _ _ _ _ _ _ c.self.invariant c.args.call c.requires.0 kept in
    let p = at_read _ _ _ _ _ _ _ c.self.invariant c.args.call c.in-Some.slot c.index.result.now c.index_mut-current.result.now inside c.index.ensures (sym c.slot.ensures ∙ c.in-Some.is) c.index_mut-current.ensures.value in
    let k = kept_here _ _ _ _ _ _ _ c.self.invariant c.args.call c.in-Some.slot c.index.result.now c.index_mut-current.result.now p in
    let stops = subst (λ t. Stops t (stop.Lock c.args.node)) (sym (turn_same _ _ _ _ _ _ _ c.self.invariant c.args.call c.in-Some.slot c.index.result.now c.index_mut-current.result.now p c.requires.0 kept)) c.requires.2 in
    let slot = holder_slot _ _ _ _ _ _ c.self.invariant.core c.args.call _ k c.args.node stops in
    let held = holder_read c.self.inside.holders.items c.args.node c.args.node c.index-held_by.result.now None refl (omega arith) c.index-held_by.ensures c.in_default-held_by.is in
    let same = c.lock_node.ensures.same in
    rw (← c.self.view_is) (seen_on _ _ _ _ _ _ _ c.self.invariant c.args.call c.in-Some.slot c.index.result.now c.index_mut-current.result.now p c.lock_node.new.self (c.index_mut-current.result.now.places - 1) (ap (λ t. t.code) same) c.append.new.self.past c.append.new.self.limit ∙ lock_seen _ _ _ _ _ _ c.self.invariant.core c.args.call _ k c.args.node stops held c.record_at-found.result c.record_at-found.ensures c.lock_node.new.self same (c.lock_node.ensures.locks) c.append.new.self c.append.ensures)

pub returns-clause-turns : goal.returns-clause-turns
returns-clause-turns c =
    let kept = rw (← c.self.view_is) at c.requires.1 in
    let inside = turned_inside _ _ _ _ _ _ _ c.self.invariant c.args.call c.requires.0 kept in
    let p = at_read _ _ _ _ _ _ _ c.self.invariant c.args.call c.in-Some.slot c.index.result.now c.index_mut-current.result.now inside c.index.ensures (sym c.slot.ensures ∙ c.in-Some.is) c.index_mut-current.ensures.value in
    let same = c.lock_node.ensures.same in
    rw (← c.self.view_is) (turns_then _ _ _ _ _ _ _ c.self.invariant c.args.call c.in-Some.slot c.index.result.now c.index_mut-current.result.now p c.lock_node.new.self (c.index_mut-current.result.now.places - 1) (ap (λ t. t.code) same))

pub returns-clause-turned : goal.returns-clause-turned
returns-clause-turned c =
    let kept = rw (← c.self.view_is) at c.requires.1 in
    let inside = turned_inside _ _ _ _ _ _ _ c.self.invariant c.args.call c.requires.0 kept in
    let p = at_read _ _ _ _ _ _ _ c.self.invariant c.args.call c.in-Some.slot c.index.result.now c.index_mut-current.result.now inside c.index.ensures (sym c.slot.ensures ∙ c.in-Some.is) c.index_mut-current.ensures.value in
    let same = c.lock_node.ensures.same in
    rw (← c.self.view_is) (λ a is other t here.
    let it : did.Lock c.args.node c.record_at-found.result ≡ a = cc in
    turn_then _ _ _ _ _ _ _ c.self.invariant c.args.call c.in-Some.slot c.index.result.now c.index_mut-current.result.now p c.lock_node.new.self (c.index_mut-current.result.now.places - 1) (ap (λ t. t.code) same)
    ∙ ap Some (turned_by _ t _ _ a (turn_same _ _ _ _ _ _ _ c.self.invariant c.args.call c.in-Some.slot c.index.result.now c.index_mut-current.result.now p t here) same c.lock_node.ensures.exact it))
