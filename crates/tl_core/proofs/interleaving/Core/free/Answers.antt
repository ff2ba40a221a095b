use Rattle.std.proofs.Common.{◌≡◌, ◌-◌, sym, ap, ◌∙◌, subst, arith, Some}
use Rattle.tl_tree_locking.specs.declared.action.Action.TheVariants as did
use Rattle.tl_machine.specs.Turns.{Stops}
use Rattle.tl_machine.specs.declared.want.Stop.TheVariants as stop
use Rattle.tl_core.proofs.OpenCall.{at_read, slot_read, turned_inside, turn_same, kept_here, whole_then, seen_on, turn_then, turns_then}
use Rattle.tl_core.proofs.KeptTurns.{turned_by}
use Rattle.tl_core.proofs.StepExits.{freed_slot, freed_record, free_place, free_reserved, free_answer, free_seen, free_kept}
use Rattle.tl_core.proofs.interleaving.Core.free.Goals as goal

pub index_mut-current-requires : goal.index_mut-current-requires
index_mut-current-requires c =
    let kept = rw (← c.self.view_is) at c.requires.1 in
    let inside = turned_inside _ _ _ _ _ _ _ c.self.invariant c.args.call c.requires.0 kept in
    let slot = slot_read _ _ _ _ _ _ _ c.self.invariant c.args.call c.in-Some.slot c.index.result.now inside c.index.ensures (sym c.slot.ensures ∙ c.in-Some.is) in
    omega arith

pub free-left-requires : goal.free-left-requires
free-left-requires c =
    let kept = rw (← c.self.view_is) at c.requires.1 in
    let inside = turned_inside _ _ _ _ _ _ _ c.self.invariant c.args.call c.requires.0 kept in
    let p = at_read _ _ _ _ _ _ _ c.self.invariant c.args.call c.in-Some.slot c.index.result.now c.index_mut-current.result.now inside c.index.ensures (sym c.slot.ensures ∙ c.in-Some.is) c.index_mut-current.ensures.value in
    let stops = subst (λ t. Stops t (stop.Free c.args.node)) (sym (turn_same _ _ _ _ _ _ _ c.self.invariant c.args.call c.in-Some.slot c.index.result.now c.index_mut-current.result.now p c.requires.0 kept)) c.requires.2 in
    (c.args.node, stops)

pub overflow_sub-current : goal.overflow_sub-current
overflow_sub-current c =
    let kept = rw (← c.self.view_is) at c.requires.1 in
    let inside = turned_inside _ _ _ _ _ _ _ c.self.invariant c.args.call c.requires.0 kept in
    let p = at_read _ _ _ _ _ _ _ c.self.invariant c.args.call c.in-Some.slot c.index.result.now c.index_mut-current.result.now inside c.index.ensures (sym c.slot.ensures ∙ c.in-Some.is) c.index_mut-current.ensures.value in
    let k = kept_here _ _ _ _ _ _ _ c.self.invariant c.args.call c.in-Some.slot c.index.result.now c.index_mut-current.result.now p in
    let stops = subst (λ t. Stops t (stop.Free c.args.node)) (sym (turn_same _ _ _ _ _ _ _ c.self.invariant c.args.call c.in-Some.slot c.index.result.now c.index_mut-current.result.now p c.requires.0 kept)) c.requires.2 in
    let same = c.free-left.ensures.same in
    let freed = c.free-left.ensures.frees in
    let place = free_place _ _ _ _ _ _ c.self.invariant.core c.args.call _ k c.args.node stops c.free-left.result c.free-left.new.self same freed in
    omega arith

pub put_at-requires : goal.put_at-requires
put_at-requires c =
    let kept = rw (← c.self.view_is) at c.requires.1 in
    let inside = turned_inside _ _ _ _ _ _ _ c.self.invariant c.args.call c.requires.0 kept in
    let p = at_read _ _ _ _ _ _ _ c.self.invariant c.args.call c.in-Some.slot c.index.result.now c.index_mut-current.result.now inside c.index.ensures (sym c.slot.ensures ∙ c.in-Some.is) c.index_mut-current.ensures.value in
    let k = kept_here _ _ _ _ _ _ _ c.self.invariant c.args.call c.in-Some.slot c.index.result.now c.index_mut-current.result.now p in
    let stops = subst (λ t. Stops t (stop.Free c.args.node)) (sym (turn_same _ _ _ _ _ _ _ c.self.invariant c.args.call c.in-Some.slot c.index.result.now c.index_mut-current.result.now p c.requires.0 kept)) c.requires.2 in
    let same = c.free-left.ensures.same in
    let freed = c.free-left.ensures.frees in
    freed_record _ _ _ _ _ _ c.self.invariant.core c.args.call _ k c.args.node stops c.free-left.result c.free-left.new.self same freed

pub index_mut-requires : goal.index_mut-requires
index_mut-requires c =
    let kept = rw (← c.self.view_is) at c.requires.1 in
    let inside = turned_inside _ _ _ _ _ _ _ c.self.invariant c.args.call c.requires.0 kept in
    let p = at_read _ _ _ _ _ _ _ c.self.invariant c.args.call c.in-Some.slot c.index.result.now c.index_mut-current.result.now inside c.index.ensures (sym c.slot.ensures ∙ c.in-Some.is) c.index_mut-current.ensures.value in
    let k = kept_here _ _ _ _ _ _ _ c.self.invariant c.args.call c.in-Some.slot c.index.result.now c.index_mut-current.result.now p in
    let stops = subst (λ t. Stops t (stop.Free c.args.node)) (sym (turn_same _ _ _ _ _ _ _ c.self.invariant c.args.call c.in-Some.slot c.index.result.now c.index_mut-current.result.now p c.requires.0 kept)) c.requires.2 in
    let same = c.free-left.ensures.same in
    let freed = c.free-left.ensures.frees in
    let slot = freed_slot _ _ _ _ _ _ c.self.invariant.core c.args.call _ k c.args.node stops c.free-left.result c.free-left.new.self same freed in
    omega arith

pub append-requires : goal.append-requires
append-requires c =
    let kept = rw (← c.self.view_is) at c.requires.1 in
    let inside = turned_inside _ _ _ _ _ _ _ c.self.invariant c.args.call c.requires.0 kept in
    let p = at_read _ _ _ _ _ _ _ c.self.invariant c.args.call c.in-Some.slot c.index.result.now c.index_mut-current.result.now inside c.index.ensures (sym c.slot.ensures ∙ c.in-Some.is) c.index_mut-current.ensures.value in
    let k = kept_here _ _ _ _ _ _ _ c.self.invariant c.args.call c.in-Some.slot c.index.result.now c.index_mut-current.result.now p in
    let stops = subst (λ t. Stops t (stop.Free c.args.node)) (sym (turn_same _ _ _ _ _ _ _ c.self.invariant c.args.call c.in-Some.slot c.index.result.now c.index_mut-current.result.now p c.requires.0 kept)) c.requires.2 in
    let same = c.free-left.ensures.same in
    let freed = c.free-left.ensures.frees in
    free_reserved _ _ _ _ _ _ c.self.invariant.core c.args.call _ k c.args.node stops c.free-left.result c.free-left.new.self same freed

pub invariant_of-self : goal.invariant_of-self
invariant_of-self c =
    let kept = rw (← c.self.view_is) at c.requires.1 in
    let inside = turned_inside _ _ _ _ _ _ _ c.self.invariant c.args.call c.requires.0 kept in
    let p = at_read _ _ _ _ _ _ _ c.self.invariant c.args.call c.in-Some.slot c.index.result.now c.index_mut-current.result.now inside c.index.ensures (sym c.slot.ensures ∙ c.in-Some.is) c.index_mut-current.ensures.value in
    let k = kept_here _ _ _ _ _ _ _ c.self.invariant c.args.call c.in-Some.slot c.index.result.now c.index_mut-current.result.now p in
    let stops = subst (λ t. Stops t (stop.Free c.args.node)) (sym (turn_same _ _ _ _ _ _ _ c.self.invariant c.args.call c.in-Some.slot c.index.result.now c.index_mut-current.result.now p c.requires.0 kept)) c.requires.2 in
    let same = c.free-left.ensures.same in
    let freed = c.free-left.ensures.frees in
    whole_then _ _ _ _ _ _ _ c.self.invariant c.args.call c.in-Some.slot c.index.result.now c.index_mut-current.result.now p c.free-left.new.self (c.index_mut-current.result.now.places - 1) (ap (λ t. t.code) same) c.append.new.self.past c.append.new.self.limit _ _ c.append.new.self.reserved (free_kept _ _ _ _ _ _ c.self.invariant.core c.args.call _ k c.args.node stops c.free-left.result c.free-left.new.self same freed c.append.new.self c.append.ensures c.put_at.new.self c.put_at.ensures) _ c.self.invariant.room

pub returns-clause-answer : goal.returns-clause-answer
returns-clause-answer c =
    let kept = rw (← c.self.view_is) at c.requires.1 in
    let inside = turned_inside _ _ _ _ _ _ _ c.self.invariant c.args.call c.requires.0 kept in
    let p = at_read _ _ _ _ _ _ _ c.self.invariant c.args.call c.in-Some.slot c.index.result.now c.index_mut-current.result.now inside c.index.ensures (sym c.slot.ensures ∙ c.in-Some.is) c.index_mut-current.ensures.value in
    let k = kept_here _ _ _ _ _ _ _ c.self.invariant c.args.call c.in-Some.slot c.index.result.now c.index_mut-current.result.now p in
    let stops = subst (λ t. Stops t (stop.Free c.args.node)) (sym (turn_same _ _ _ _ _ _ _ c.self.invariant c.args.call c.in-Some.slot c.index.result.now c.index_mut-current.result.now p c.requires.0 kept)) c.requires.2 in
    let same = c.free-left.ensures.same in
    let freed = c.free-left.ensures.frees in
    rw (← c.self.view_is) (free_answer _ _ _ _ _ _ c.self.invariant.core c.args.call _ k c.args.node stops c.free-left.result c.free-left.new.self same freed)

pub returns-clause-after : goal.returns-clause-after
returns-clause-after c =
    let kept = rw (← c.self.view_is) at c.requires.1 in
    let inside = turned_inside _ _ _ _ _ _ _ c.self.invariant c.args.call c.requires.0 kept in
    let p = at_read _ _ _ _ _ _ _ c.self.invariant c.args.call c.in-Some.slot c.index.result.now c.index_mut-current.result.now inside c.index.ensures (sym c.slot.ensures ∙ c.in-Some.is) c.index_mut-current.ensures.value in
    let k = kept_here _ _ _ _ _ _ _ c.self.invariant c.args.call c.in-Some.slot c.index.result.now c.index_mut-current.result.now p in
    let stops = subst (λ t. Stops t (stop.Free c.args.node)) (sym (turn_same _ _ _ _ _ _ _ c.self.invariant c.args.call c.in-Some.slot c.index.result.now c.index_mut-current.result.now p c.requires.0 kept)) c.requires.2 in
    let same = c.free-left.ensures.same in
    let freed = c.free-left.ensures.frees in
    rw (← c.self.view_is) (seen_on _ _ _ _ _ _ _ c.self.invariant c.args.call c.in-Some.slot c.index.result.now c.index_mut-current.result.now p c.free-left.new.self (c.index_mut-current.result.now.places - 1) (ap (λ t. t.code) same) c.append.new.self.past c.append.new.self.limit ∙ free_seen _ _ _ _ _ _ c.self.invariant.core c.args.call _ k c.args.node stops c.free-left.result c.free-left.new.self same freed c.append.new.self c.append.ensures)

pub returns-clause-turns : goal.returns-clause-turns
returns-clause-turns c =
    let kept = rw (← c.self.view_is) at c.requires.1 in
    let inside = turned_inside _ _ _ _ _ _ _ c.self.invariant c.args.call c.requires.0 kept in
    let p = at_read _ _ _ _ _ _ _ c.self.invariant c.args.call c.in-Some.slot c.index.result.now c.index_mut-current.result.now inside c.index.ensures (sym c.slot.ensures ∙ c.in-Some.is) c.index_mut-current.ensures.value in
    let same = c.free-left.ensures.same in
    rw (← c.self.view_is) (turns_then _ _ _ _ _ _ _ c.self.invariant c.args.call c.in-Some.slot c.index.result.now c.index_mut-current.result.now p c.free-left.new.self (c.index_mut-current.result.now.places - 1) (ap (λ t. t.code) same))

pub returns-clause-turned : goal.returns-clause-turned
returns-clause-turned c =
    let kept = rw (← c.self.view_is) at c.requires.1 in
    let inside = turned_inside _ _ _ _ _ _ _ c.self.invariant c.args.call c.requires.0 kept in
    let p = at_read _ _ _ _ _ _ _ c.self.invariant c.args.call c.in-Some.slot c.index.result.now c.index_mut-current.result.now inside c.index.ensures (sym c.slot.ensures ∙ c.in-Some.is) c.index_mut-current.ensures.value in
    let same = c.free-left.ensures.same in
    rw (← c.self.view_is) (λ a is other t here.
    let it : did.Free c.args.node c.free-left.result ≡ a = cc in
    turn_then _ _ _ _ _ _ _ c.self.invariant c.args.call c.in-Some.slot c.index.result.now c.index_mut-current.result.now p c.free-left.new.self (c.index_mut-current.result.now.places - 1) (ap (λ t. t.code) same)
    ∙ ap Some (turned_by _ t _ _ a (turn_same _ _ _ _ _ _ _ c.self.invariant c.args.call c.in-Some.slot c.index.result.now c.index_mut-current.result.now p t here) same c.free-left.ensures.exact it))
