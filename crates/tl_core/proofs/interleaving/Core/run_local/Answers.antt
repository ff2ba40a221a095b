use Rattle.std.proofs.Common.{refl, sym, ap, ◌∙◌, arith}
use Rattle.std.proofs.lemmas.List.{length-map}
use Rattle.tl_machine.specs.Turns.{SegmentValue}
use Rattle.tl_core.specs.Stored.{seen_call}
use Rattle.tl_core.proofs.OpenCall.{at_read, slot_read, over_state, turn_here, turn_then, turns_then}
use Rattle.tl_core.proofs.LedCores.{whole_led, local_led, each_led, goes_led}
use Rattle.tl_core.proofs.interleaving.Core.run_local.Goals as goal

pub index_mut-requires : goal.index_mut-requires
index_mut-requires c =
    let lt = rw (← c.self.view_is) at c.requires in
    let long = length-map c.self.inside.calls.items (seen_call c.self.inside.procedures c.self.inside.slots.items) in
    let slot = slot_read _ _ _ _ _ _ _ c.self.invariant c.args.call c.in-Some.slot c.index.result.now (omega arith) c.index.ensures (sym c.slot.ensures ∙ c.in-Some.is) in
    omega arith

pub returns-in_default-clause-none : goal.returns-in_default-clause-none
returns-in_default-clause-none c =
    let lt = rw (← c.self.view_is) at c.requires in
    let long = length-map c.self.inside.calls.items (seen_call c.self.inside.procedures c.self.inside.slots.items) in
    rw (← c.self.view_is) (λ none. (sym (over_state _ _ _ _ _ _ _ c.self.invariant c.args.call c.index.result.now (omega arith) c.index.ensures (sym c.slot.ensures ∙ c.in_default.is)), refl))

pub invariant_of-self : goal.invariant_of-self
invariant_of-self c =
    let lt = rw (← c.self.view_is) at c.requires in
    let long = length-map c.self.inside.calls.items (seen_call c.self.inside.procedures c.self.inside.slots.items) in
    let p = at_read _ _ _ _ _ _ _ c.self.invariant c.args.call c.in-Some.slot c.index.result.now c.index_mut.result.now (omega arith) c.index.ensures (sym c.slot.ensures ∙ c.in-Some.is) c.index_mut.ensures.value in
    let seg : SegmentValue = record { from = c.index_mut.result.now.turn; to = c.run_local.new.self.call; stop = c.run_local.result } in
    let kept = turn_here _ _ _ _ _ _ _ c.self.invariant c.args.call c.in-Some.slot c.index.result.now c.index_mut.result.now p in
    whole_led _ _ _ _ _ _ _ c.self.invariant c.args.call seg kept c.run_local.ensures.segment c.in-Some.slot c.index.result.now c.index_mut.result.now p c.run_local.new.self c.run_local.ensures.same

pub returns-clause-some : goal.returns-clause-some
returns-clause-some c =
    let lt = rw (← c.self.view_is) at c.requires in
    let long = length-map c.self.inside.calls.items (seen_call c.self.inside.procedures c.self.inside.slots.items) in
    let p = at_read _ _ _ _ _ _ _ c.self.invariant c.args.call c.in-Some.slot c.index.result.now c.index_mut.result.now (omega arith) c.index.ensures (sym c.slot.ensures ∙ c.in-Some.is) c.index_mut.ensures.value in
    let seg : SegmentValue = record { from = c.index_mut.result.now.turn; to = c.run_local.new.self.call; stop = c.run_local.result } in
    let kept = turn_here _ _ _ _ _ _ _ c.self.invariant c.args.call c.in-Some.slot c.index.result.now c.index_mut.result.now p in
    rw (← c.self.view_is) (record {
      local = local_led _ _ _ _ _ _ _ c.self.invariant c.args.call seg kept c.run_local.ensures.segment c.in-Some.slot c.index.result.now c.index_mut.result.now p c.run_local.new.self c.run_local.ensures.same;
      each_local = each_led _ _ _ _ _ _ _ c.self.invariant c.args.call seg kept c.run_local.ensures.segment c.in-Some.slot c.index.result.now c.index_mut.result.now p c.run_local.new.self c.run_local.ensures.same;
      goes = goes_led _ _ _ _ _ _ _ c.self.invariant c.args.call seg kept c.run_local.ensures.segment c.in-Some.slot c.index.result.now c.index_mut.result.now p c.run_local.new.self c.run_local.ensures.same;
      turn = c.run_local.new.self;
      kept = turn_then _ _ _ _ _ _ _ c.self.invariant c.args.call c.in-Some.slot c.index.result.now c.index_mut.result.now p c.run_local.new.self c.index_mut.result.now.places (ap (λ t. t.code) c.run_local.ensures.same);
      stops = rw c.run_local.ensures.same c.run_local.ensures.segment.stop;
    })

pub returns-clause-turns : goal.returns-clause-turns
returns-clause-turns c =
    let lt = rw (← c.self.view_is) at c.requires in
    let long = length-map c.self.inside.calls.items (seen_call c.self.inside.procedures c.self.inside.slots.items) in
    let p = at_read _ _ _ _ _ _ _ c.self.invariant c.args.call c.in-Some.slot c.index.result.now c.index_mut.result.now (omega arith) c.index.ensures (sym c.slot.ensures ∙ c.in-Some.is) c.index_mut.ensures.value in
    rw (← c.self.view_is) (turns_then _ _ _ _ _ _ _ c.self.invariant c.args.call c.in-Some.slot c.index.result.now c.index_mut.result.now p c.run_local.new.self c.index_mut.result.now.places (ap (λ t. t.code) c.run_local.ensures.same))
