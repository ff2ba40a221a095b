use Rattle.std.proofs.Common.{refl, sym, ap, ◌∙◌, subst, arith}
use Rattle.std.proofs.lemmas.Option.{slice_get_read}
use Rattle.tl_machine.specs.Turns.{Stops}
use Rattle.tl_machine.specs.declared.want.Stop.TheVariants as stop
use Rattle.tl_core.proofs.StoredCalls.{removed, IsWithout}
use Rattle.tl_core.proofs.OpenCall.{at_read, at_read_again, slot_read, turned_inside, turn_same, kept_here, over_last, over_moved, moved_inside, moved_there, whole_over, seen_over, turns_over}
use Rattle.tl_core.proofs.StepExits.{end_place, end_places, end_answer, end_seen, end_kept}
use Rattle.tl_core.proofs.interleaving.Core.end.Goals as goal

pub index_mut-current-requires : goal.index_mut-current-requires
index_mut-current-requires c =
    let kept = rw (← c.self.view_is) at c.requires.1 in
    let inside = turned_inside _ _ _ _ _ _ _ c.self.invariant c.args.call c.requires.0 kept in
    let slot = slot_read _ _ _ _ _ _ _ c.self.invariant c.args.call c.in-Some.slot c.index.result.now inside c.index.ensures (sym c.slot.ensures ∙ c.in-Some.is) in
    omega arith

pub finish-reply-requires : goal.finish-reply-requires
finish-reply-requires c =
    let kept = rw (← c.self.view_is) at c.requires.1 in
    let inside = turned_inside _ _ _ _ _ _ _ c.self.invariant c.args.call c.requires.0 kept in
    let p = at_read _ _ _ _ _ _ _ c.self.invariant c.args.call c.in-Some.slot c.index.result.now c.index_mut-current.result.now inside c.index.ensures (sym c.slot.ensures ∙ c.in-Some.is) c.index_mut-current.ensures.value in
    let stops = subst (λ t. Stops t stop.Return) (sym (turn_same _ _ _ _ _ _ _ c.self.invariant c.args.call c.in-Some.slot c.index.result.now c.index_mut-current.result.now p c.requires.0 kept)) c.requires.2 in
    stops

pub append-requires : goal.append-requires
append-requires c =
    let kept = rw (← c.self.view_is) at c.requires.1 in
    let inside = turned_inside _ _ _ _ _ _ _ c.self.invariant c.args.call c.requires.0 kept in
    let p = at_read _ _ _ _ _ _ _ c.self.invariant c.args.call c.in-Some.slot c.index.result.now c.index_mut-current.result.now inside c.index.ensures (sym c.slot.ensures ∙ c.in-Some.is) c.index_mut-current.ensures.value in
    let k = kept_here _ _ _ _ _ _ _ c.self.invariant c.args.call c.in-Some.slot c.index.result.now c.index_mut-current.result.now p in
    let same = c.finish-reply.ensures.same in
    let ended = c.finish-reply.ensures.ends in
    let place = end_place _ _ _ _ _ _ c.self.invariant.core c.args.call _ k c.finish-reply.new.self same ended in
    let all = end_places _ _ _ _ _ _ c.self.invariant.core c.args.call _ k c.finish-reply.new.self same ended in
    omega arith

pub overflow_sub-current : goal.overflow_sub-current
overflow_sub-current c =
    let kept = rw (← c.self.view_is) at c.requires.1 in
    let inside = turned_inside _ _ _ _ _ _ _ c.self.invariant c.args.call c.requires.0 kept in
    let p = at_read _ _ _ _ _ _ _ c.self.invariant c.args.call c.in-Some.slot c.index.result.now c.index_mut-current.result.now inside c.index.ensures (sym c.slot.ensures ∙ c.in-Some.is) c.index_mut-current.ensures.value in
    let k = kept_here _ _ _ _ _ _ _ c.self.invariant c.args.call c.in-Some.slot c.index.result.now c.index_mut-current.result.now p in
    let same = c.finish-reply.ensures.same in
    let ended = c.finish-reply.ensures.ends in
    let place = end_place _ _ _ _ _ _ c.self.invariant.core c.args.call _ k c.finish-reply.new.self same ended in
    omega arith

pub give_back-requires : goal.give_back-requires
give_back-requires c =
    let kept = rw (← c.self.view_is) at c.requires.1 in
    let inside = turned_inside _ _ _ _ _ _ _ c.self.invariant c.args.call c.requires.0 kept in
    let p = at_read _ _ _ _ _ _ _ c.self.invariant c.args.call c.in-Some.slot c.index.result.now c.index_mut-current.result.now inside c.index.ensures (sym c.slot.ensures ∙ c.in-Some.is) c.index_mut-current.ensures.value in
    let k = kept_here _ _ _ _ _ _ _ c.self.invariant c.args.call c.in-Some.slot c.index.result.now c.index_mut-current.result.now p in
    let same = c.finish-reply.ensures.same in
    let ended = c.finish-reply.ensures.ends in
    let place = end_place _ _ _ _ _ _ c.self.invariant.core c.args.call _ k c.finish-reply.new.self same ended in
    let all = end_places _ _ _ _ _ _ c.self.invariant.core c.args.call _ k c.finish-reply.new.self same ended in
    let left = ap (λ z. z.reserved) c.append.ensures in
    omega arith

pub swap_remove-requires : goal.swap_remove-requires
swap_remove-requires c =
    let kept = rw (← c.self.view_is) at c.requires.1 in
    let inside = turned_inside _ _ _ _ _ _ _ c.self.invariant c.args.call c.requires.0 kept in
    let slot = slot_read _ _ _ _ _ _ _ c.self.invariant c.args.call c.in-Some.slot c.index.result.now inside c.index.ensures (sym c.slot.ensures ∙ c.in-Some.is) in
    omega arith

pub index_mut-requires-then-slot-len : goal.index_mut-requires-then-slot-len
index_mut-requires-then-slot-len c =
    let kept = rw (← c.self.view_is) at c.requires.1 in
    let inside = turned_inside _ _ _ _ _ _ _ c.self.invariant c.args.call c.requires.0 kept in
    let p = at_read_again _ _ _ _ _ _ _ c.self.invariant c.args.call c.in-Some.slot c.index.result.now c.index_mut.result.now c.index_mut-current.result.now inside c.index.ensures c.index_mut.ensures.value (sym c.slot.ensures ∙ c.in-Some.is) c.index_mut-current.ensures.value in
    let k = kept_here _ _ _ _ _ _ _ c.self.invariant c.args.call c.in-Some.slot c.index_mut.result.now c.index_mut-current.result.now p in
    let same = c.finish-reply.ensures.same in
    let ended = c.finish-reply.ensures.ends in
    let slot = slot_read _ _ _ _ _ _ _ c.self.invariant c.args.call c.in-Some.slot c.index.result.now inside c.index.ensures (sym c.slot.ensures ∙ c.in-Some.is) in
    let gone : IsWithout c.self.inside.slots.items c.in-Some.slot c.swap_remove.new.self.items = rw c.swap_remove.ensures.items (removed c.self.inside.slots.items c.in-Some.slot _ _ (omega arith)) in
    let there = slice_get_read c.swap_remove.new.self.items _ c.in-Some.slot c.index-then-slot-len.result.now refl (omega arith) c.index-then-slot-len.ensures in
    let inside = moved_inside _ _ _ _ _ _ _ c.self.invariant c.args.call c.in-Some.slot c.index_mut.result.now c.index_mut-current.result.now p c.finish-reply.new.self c.finish-reply.result c.call.result.now.steps (ap (λ t. t.code) same) (ap (λ z. z.steps) c.call.ensures.state) c.swap_remove.new.self.items gone c.index-then-slot-len.result.now there in
    omega arith

pub invariant_of-self : goal.invariant_of-self
invariant_of-self c =
    let kept = rw (← c.self.view_is) at c.requires.1 in
    let inside = turned_inside _ _ _ _ _ _ _ c.self.invariant c.args.call c.requires.0 kept in
    let p = at_read_again _ _ _ _ _ _ _ c.self.invariant c.args.call c.in-Some.slot c.index.result.now c.index_mut.result.now c.index_mut-current.result.now inside c.index.ensures c.index_mut.ensures.value (sym c.slot.ensures ∙ c.in-Some.is) c.index_mut-current.ensures.value in
    let k = kept_here _ _ _ _ _ _ _ c.self.invariant c.args.call c.in-Some.slot c.index_mut.result.now c.index_mut-current.result.now p in
    let same = c.finish-reply.ensures.same in
    let ended = c.finish-reply.ensures.ends in
    let slot = slot_read _ _ _ _ _ _ _ c.self.invariant c.args.call c.in-Some.slot c.index.result.now inside c.index.ensures (sym c.slot.ensures ∙ c.in-Some.is) in
    let gone : IsWithout c.self.inside.slots.items c.in-Some.slot c.swap_remove.new.self.items = rw c.swap_remove.ensures.items (removed c.self.inside.slots.items c.in-Some.slot _ _ (omega arith)) in
    let there = slice_get_read c.swap_remove.new.self.items _ c.in-Some.slot c.index-then-slot-len.result.now refl (omega arith) c.index-then-slot-len.ensures in
    let stored = over_moved _ _ _ _ _ _ _ c.self.invariant c.args.call c.in-Some.slot c.index_mut.result.now c.index_mut-current.result.now p c.finish-reply.new.self c.finish-reply.result c.call.result.now.steps (ap (λ t. t.code) same) (ap (λ z. z.steps) c.call.ensures.state) c.swap_remove.new.self.items gone c.index-then-slot-len.result.now there c.index_mut-then-slot-len.result.now (moved_there _ _ _ _ _ _ _ c.self.invariant c.args.call c.in-Some.slot c.index_mut.result.now c.index_mut-current.result.now p c.finish-reply.new.self c.finish-reply.result c.call.result.now.steps (ap (λ t. t.code) same) (ap (λ z. z.steps) c.call.ensures.state) c.swap_remove.new.self.items gone c.index-then-slot-len.result.now there c.index_mut-then-slot-len.result.now c.index_mut-then-slot-len.ensures.value) in
    let past = ap (λ z. z.past) c.give_back.ensures ∙ ap (λ z. z.past) c.append.ensures in
    let limit = ap (λ z. z.limit) c.give_back.ensures ∙ ap (λ z. z.limit) c.append.ensures in
    let given = ap (λ z. z.reserved) c.give_back.ensures in
    let used = ap (λ z. z.reserved) c.append.ensures in
    let place = end_place _ _ _ _ _ _ c.self.invariant.core c.args.call _ k c.finish-reply.new.self same ended in
    whole_over _ _ _ _ _ _ _ c.self.invariant c.args.call c.in-Some.slot c.index_mut.result.now c.index_mut-current.result.now p c.finish-reply.new.self c.finish-reply.result c.call.result.now.steps (ap (λ t. t.code) same) (ap (λ z. z.steps) c.call.ensures.state) c.swap_remove.new.self.items gone _ stored c.give_back.new.self.past c.give_back.new.self.limit _ _ c.give_back.new.self.reserved (end_kept _ _ _ _ _ _ c.self.invariant.core c.args.call _ k c.finish-reply.new.self same ended c.give_back.new.self past limit c.finish-reply.result (c.finish-reply.ensures.reply) (omega arith)) _ (rw c.swap_remove.ensures.capacity c.self.invariant.room)

pub invariant_of-self-else-slot-len : goal.invariant_of-self-else-slot-len
invariant_of-self-else-slot-len c =
    let kept = rw (← c.self.view_is) at c.requires.1 in
    let inside = turned_inside _ _ _ _ _ _ _ c.self.invariant c.args.call c.requires.0 kept in
    let p = at_read_again _ _ _ _ _ _ _ c.self.invariant c.args.call c.in-Some.slot c.index.result.now c.index_mut.result.now c.index_mut-current.result.now inside c.index.ensures c.index_mut.ensures.value (sym c.slot.ensures ∙ c.in-Some.is) c.index_mut-current.ensures.value in
    let k = kept_here _ _ _ _ _ _ _ c.self.invariant c.args.call c.in-Some.slot c.index_mut.result.now c.index_mut-current.result.now p in
    let same = c.finish-reply.ensures.same in
    let ended = c.finish-reply.ensures.ends in
    let slot = slot_read _ _ _ _ _ _ _ c.self.invariant c.args.call c.in-Some.slot c.index.result.now inside c.index.ensures (sym c.slot.ensures ∙ c.in-Some.is) in
    let gone : IsWithout c.self.inside.slots.items c.in-Some.slot c.swap_remove.new.self.items = rw c.swap_remove.ensures.items (removed c.self.inside.slots.items c.in-Some.slot _ _ (omega arith)) in
    let long = gone.long in
    let stored = over_last _ _ _ _ _ _ _ c.self.invariant c.args.call c.in-Some.slot c.index_mut.result.now c.index_mut-current.result.now p c.finish-reply.new.self c.finish-reply.result c.call.result.now.steps (ap (λ t. t.code) same) (ap (λ z. z.steps) c.call.ensures.state) c.swap_remove.new.self.items gone (omega arith) in
    let past = ap (λ z. z.past) c.give_back.ensures ∙ ap (λ z. z.past) c.append.ensures in
    let limit = ap (λ z. z.limit) c.give_back.ensures ∙ ap (λ z. z.limit) c.append.ensures in
    let given = ap (λ z. z.reserved) c.give_back.ensures in
    let used = ap (λ z. z.reserved) c.append.ensures in
    let place = end_place _ _ _ _ _ _ c.self.invariant.core c.args.call _ k c.finish-reply.new.self same ended in
    whole_over _ _ _ _ _ _ _ c.self.invariant c.args.call c.in-Some.slot c.index_mut.result.now c.index_mut-current.result.now p c.finish-reply.new.self c.finish-reply.result c.call.result.now.steps (ap (λ t. t.code) same) (ap (λ z. z.steps) c.call.ensures.state) c.swap_remove.new.self.items gone _ stored c.give_back.new.self.past c.give_back.new.self.limit _ _ c.give_back.new.self.reserved (end_kept _ _ _ _ _ _ c.self.invariant.core c.args.call _ k c.finish-reply.new.self same ended c.give_back.new.self past limit c.finish-reply.result (c.finish-reply.ensures.reply) (omega arith)) _ (rw c.swap_remove.ensures.capacity c.self.invariant.room)

pub returns-then-slot-len-clause-answer : goal.returns-then-slot-len-clause-answer
returns-then-slot-len-clause-answer c =
    let kept = rw (← c.self.view_is) at c.requires.1 in
    let inside = turned_inside _ _ _ _ _ _ _ c.self.invariant c.args.call c.requires.0 kept in
    let p = at_read _ _ _ _ _ _ _ c.self.invariant c.args.call c.in-Some.slot c.index.result.now c.index_mut-current.result.now inside c.index.ensures (sym c.slot.ensures ∙ c.in-Some.is) c.index_mut-current.ensures.value in
    let k = kept_here _ _ _ _ _ _ _ c.self.invariant c.args.call c.in-Some.slot c.index.result.now c.index_mut-current.result.now p in
    let same = c.finish-reply.ensures.same in
    let ended = c.finish-reply.ensures.ends in
    rw (← c.self.view_is) (end_answer _ _ _ _ _ _ c.self.invariant.core c.args.call _ k c.finish-reply.new.self same ended)

pub returns-then-slot-len-clause-after : goal.returns-then-slot-len-clause-after
returns-then-slot-len-clause-after c =
    let kept = rw (← c.self.view_is) at c.requires.1 in
    let inside = turned_inside _ _ _ _ _ _ _ c.self.invariant c.args.call c.requires.0 kept in
    let p = at_read_again _ _ _ _ _ _ _ c.self.invariant c.args.call c.in-Some.slot c.index.result.now c.index_mut.result.now c.index_mut-current.result.now inside c.index.ensures c.index_mut.ensures.value (sym c.slot.ensures ∙ c.in-Some.is) c.index_mut-current.ensures.value in
    let k = kept_here _ _ _ _ _ _ _ c.self.invariant c.args.call c.in-Some.slot c.index_mut.result.now c.index_mut-current.result.now p in
    let same = c.finish-reply.ensures.same in
    let ended = c.finish-reply.ensures.ends in
    let slot = slot_read _ _ _ _ _ _ _ c.self.invariant c.args.call c.in-Some.slot c.index.result.now inside c.index.ensures (sym c.slot.ensures ∙ c.in-Some.is) in
    let gone : IsWithout c.self.inside.slots.items c.in-Some.slot c.swap_remove.new.self.items = rw c.swap_remove.ensures.items (removed c.self.inside.slots.items c.in-Some.slot _ _ (omega arith)) in
    let there = slice_get_read c.swap_remove.new.self.items _ c.in-Some.slot c.index-then-slot-len.result.now refl (omega arith) c.index-then-slot-len.ensures in
    let stored = over_moved _ _ _ _ _ _ _ c.self.invariant c.args.call c.in-Some.slot c.index_mut.result.now c.index_mut-current.result.now p c.finish-reply.new.self c.finish-reply.result c.call.result.now.steps (ap (λ t. t.code) same) (ap (λ z. z.steps) c.call.ensures.state) c.swap_remove.new.self.items gone c.index-then-slot-len.result.now there c.index_mut-then-slot-len.result.now (moved_there _ _ _ _ _ _ _ c.self.invariant c.args.call c.in-Some.slot c.index_mut.result.now c.index_mut-current.result.now p c.finish-reply.new.self c.finish-reply.result c.call.result.now.steps (ap (λ t. t.code) same) (ap (λ z. z.steps) c.call.ensures.state) c.swap_remove.new.self.items gone c.index-then-slot-len.result.now there c.index_mut-then-slot-len.result.now c.index_mut-then-slot-len.ensures.value) in
    let past = ap (λ z. z.past) c.give_back.ensures ∙ ap (λ z. z.past) c.append.ensures in
    let limit = ap (λ z. z.limit) c.give_back.ensures ∙ ap (λ z. z.limit) c.append.ensures in
    rw (← c.self.view_is) (seen_over _ _ _ _ _ _ _ c.self.invariant c.args.call c.in-Some.slot c.index_mut.result.now c.index_mut-current.result.now p c.finish-reply.new.self c.finish-reply.result c.call.result.now.steps (ap (λ t. t.code) same) (ap (λ z. z.steps) c.call.ensures.state) c.swap_remove.new.self.items gone _ stored c.give_back.new.self.past c.give_back.new.self.limit ∙ end_seen _ _ _ _ _ _ c.self.invariant.core c.args.call _ k c.finish-reply.new.self same ended c.give_back.new.self past limit c.finish-reply.result)

pub returns-else-slot-len-clause-answer : goal.returns-else-slot-len-clause-answer
returns-else-slot-len-clause-answer c =
    let kept = rw (← c.self.view_is) at c.requires.1 in
    let inside = turned_inside _ _ _ _ _ _ _ c.self.invariant c.args.call c.requires.0 kept in
    let p = at_read _ _ _ _ _ _ _ c.self.invariant c.args.call c.in-Some.slot c.index.result.now c.index_mut-current.result.now inside c.index.ensures (sym c.slot.ensures ∙ c.in-Some.is) c.index_mut-current.ensures.value in
    let k = kept_here _ _ _ _ _ _ _ c.self.invariant c.args.call c.in-Some.slot c.index.result.now c.index_mut-current.result.now p in
    let same = c.finish-reply.ensures.same in
    let ended = c.finish-reply.ensures.ends in
    rw (← c.self.view_is) (end_answer _ _ _ _ _ _ c.self.invariant.core c.args.call _ k c.finish-reply.new.self same ended)

pub returns-else-slot-len-clause-after : goal.returns-else-slot-len-clause-after
returns-else-slot-len-clause-after c =
    let kept = rw (← c.self.view_is) at c.requires.1 in
    let inside = turned_inside _ _ _ _ _ _ _ c.self.invariant c.args.call c.requires.0 kept in
    let p = at_read_again _ _ _ _ _ _ _ c.self.invariant c.args.call c.in-Some.slot c.index.result.now c.index_mut.result.now c.index_mut-current.result.now inside c.index.ensures c.index_mut.ensures.value (sym c.slot.ensures ∙ c.in-Some.is) c.index_mut-current.ensures.value in
    let k = kept_here _ _ _ _ _ _ _ c.self.invariant c.args.call c.in-Some.slot c.index_mut.result.now c.index_mut-current.result.now p in
    let same = c.finish-reply.ensures.same in
    let ended = c.finish-reply.ensures.ends in
    let slot = slot_read _ _ _ _ _ _ _ c.self.invariant c.args.call c.in-Some.slot c.index.result.now inside c.index.ensures (sym c.slot.ensures ∙ c.in-Some.is) in
    let gone : IsWithout c.self.inside.slots.items c.in-Some.slot c.swap_remove.new.self.items = rw c.swap_remove.ensures.items (removed c.self.inside.slots.items c.in-Some.slot _ _ (omega arith)) in
    let long = gone.long in
    let stored = over_last _ _ _ _ _ _ _ c.self.invariant c.args.call c.in-Some.slot c.index_mut.result.now c.index_mut-current.result.now p c.finish-reply.new.self c.finish-reply.result c.call.result.now.steps (ap (λ t. t.code) same) (ap (λ z. z.steps) c.call.ensures.state) c.swap_remove.new.self.items gone (omega arith) in
    let past = ap (λ z. z.past) c.give_back.ensures ∙ ap (λ z. z.past) c.append.ensures in
    let limit = ap (λ z. z.limit) c.give_back.ensures ∙ ap (λ z. z.limit) c.append.ensures in
    rw (← c.self.view_is) (seen_over _ _ _ _ _ _ _ c.self.invariant c.args.call c.in-Some.slot c.index_mut.result.now c.index_mut-current.result.now p c.finish-reply.new.self c.finish-reply.result c.call.result.now.steps (ap (λ t. t.code) same) (ap (λ z. z.steps) c.call.ensures.state) c.swap_remove.new.self.items gone _ stored c.give_back.new.self.past c.give_back.new.self.limit ∙ end_seen _ _ _ _ _ _ c.self.invariant.core c.args.call _ k c.finish-reply.new.self same ended c.give_back.new.self past limit c.finish-reply.result)

pub returns-then-slot-len-clause-turns : goal.returns-then-slot-len-clause-turns
returns-then-slot-len-clause-turns c =
    let kept = rw (← c.self.view_is) at c.requires.1 in
    let inside = turned_inside _ _ _ _ _ _ _ c.self.invariant c.args.call c.requires.0 kept in
    let p = at_read_again _ _ _ _ _ _ _ c.self.invariant c.args.call c.in-Some.slot c.index.result.now c.index_mut.result.now c.index_mut-current.result.now inside c.index.ensures c.index_mut.ensures.value (sym c.slot.ensures ∙ c.in-Some.is) c.index_mut-current.ensures.value in
    let same = c.finish-reply.ensures.same in
    let slot = slot_read _ _ _ _ _ _ _ c.self.invariant c.args.call c.in-Some.slot c.index.result.now inside c.index.ensures (sym c.slot.ensures ∙ c.in-Some.is) in
    let gone : IsWithout c.self.inside.slots.items c.in-Some.slot c.swap_remove.new.self.items = rw c.swap_remove.ensures.items (removed c.self.inside.slots.items c.in-Some.slot _ _ (omega arith)) in
    let there = slice_get_read c.swap_remove.new.self.items _ c.in-Some.slot c.index-then-slot-len.result.now refl (omega arith) c.index-then-slot-len.ensures in
    let stored = over_moved _ _ _ _ _ _ _ c.self.invariant c.args.call c.in-Some.slot c.index_mut.result.now c.index_mut-current.result.now p c.finish-reply.new.self c.finish-reply.result c.call.result.now.steps (ap (λ t. t.code) same) (ap (λ z. z.steps) c.call.ensures.state) c.swap_remove.new.self.items gone c.index-then-slot-len.result.now there c.index_mut-then-slot-len.result.now (moved_there _ _ _ _ _ _ _ c.self.invariant c.args.call c.in-Some.slot c.index_mut.result.now c.index_mut-current.result.now p c.finish-reply.new.self c.finish-reply.result c.call.result.now.steps (ap (λ t. t.code) same) (ap (λ z. z.steps) c.call.ensures.state) c.swap_remove.new.self.items gone c.index-then-slot-len.result.now there c.index_mut-then-slot-len.result.now c.index_mut-then-slot-len.ensures.value) in
    rw (← c.self.view_is) (turns_over _ _ _ _ _ _ _ c.self.invariant c.args.call c.in-Some.slot c.index_mut.result.now c.index_mut-current.result.now p c.finish-reply.new.self c.finish-reply.result c.call.result.now.steps (ap (λ t. t.code) same) (ap (λ z. z.steps) c.call.ensures.state) c.swap_remove.new.self.items gone _ stored)

pub returns-else-slot-len-clause-turns : goal.returns-else-slot-len-clause-turns
returns-else-slot-len-clause-turns c =
    let kept = rw (← c.self.view_is) at c.requires.1 in
    let inside = turned_inside _ _ _ _ _ _ _ c.self.invariant c.args.call c.requires.0 kept in
    let p = at_read_again _ _ _ _ _ _ _ c.self.invariant c.args.call c.in-Some.slot c.index.result.now c.index_mut.result.now c.index_mut-current.result.now inside c.index.ensures c.index_mut.ensures.value (sym c.slot.ensures ∙ c.in-Some.is) c.index_mut-current.ensures.value in
    let same = c.finish-reply.ensures.same in
    let slot = slot_read _ _ _ _ _ _ _ c.self.invariant c.args.call c.in-Some.slot c.index.result.now inside c.index.ensures (sym c.slot.ensures ∙ c.in-Some.is) in
    let gone : IsWithout c.self.inside.slots.items c.in-Some.slot c.swap_remove.new.self.items = rw c.swap_remove.ensures.items (removed c.self.inside.slots.items c.in-Some.slot _ _ (omega arith)) in
    let long = gone.long in
    let stored = over_last _ _ _ _ _ _ _ c.self.invariant c.args.call c.in-Some.slot c.index_mut.result.now c.index_mut-current.result.now p c.finish-reply.new.self c.finish-reply.result c.call.result.now.steps (ap (λ t. t.code) same) (ap (λ z. z.steps) c.call.ensures.state) c.swap_remove.new.self.items gone (omega arith) in
    rw (← c.self.view_is) (turns_over _ _ _ _ _ _ _ c.self.invariant c.args.call c.in-Some.slot c.index_mut.result.now c.index_mut-current.result.now p c.finish-reply.new.self c.finish-reply.result c.call.result.now.steps (ap (λ t. t.code) same) (ap (λ z. z.steps) c.call.ensures.state) c.swap_remove.new.self.items gone _ stored)
