use Rattle.std.proofs.Common.{refl, sym, ◌∙◌, subst, arith, inr}
use Rattle.std.proofs.lemmas.Bool.{both_ways}
use Rattle.std.proofs.lemmas.List.{length-map}
use Rattle.tl_core.specs.Stored.{seen_call}
use Rattle.tl_machine.specs.Turns.{IsFrom}
use Rattle.tl_core.proofs.OpenCall.{at_read, slot_read, turn_here, turn_same}
use Rattle.tl_core.proofs.KeptTurns.{turn_of}
use Rattle.tl_core.proofs.interleaving.Core.check_lent.Goals as goal

pub index-requires-2 : goal.index-requires-2
index-requires-2 c = let slot = slot_read _ _ _ _ _ _ _ c.self.invariant c.args.call c.in-Some.slot c.index.result.now (omega arith) c.index.ensures (sym c.slot.ensures ∙ c.in-Some.is) in omega arith

pub returns-then-is_from-clause-ok : goal.returns-then-is_from-clause-ok
returns-then-is_from-clause-ok c =
    let p = at_read _ _ _ _ _ _ _ c.self.invariant c.args.call c.in-Some.slot c.index.result.now c.index-2.result.now (omega arith) c.index.ensures (sym c.slot.ensures ∙ c.in-Some.is) c.index-2.ensures in
    rw (← c.self.view_is) (
      c.index-2.result.now.turn,
      turn_here _ _ _ _ _ _ _ c.self.invariant c.args.call c.in-Some.slot c.index.result.now c.index-2.result.now p,
      c.is_from.ensures.same.0 c.if-is_from.true,
      c.is_from.ensures.turn,
      (turn_of _ _ _ _ _ _ _ c.self.invariant c.args.call c.index-2.result.now.turn (turn_here _ _ _ _ _ _ _ c.self.invariant c.args.call c.in-Some.slot c.index.result.now c.index-2.result.now p)).parents,
      (let long = length-map c.self.inside.calls.items (seen_call c.self.inside.procedures c.self.inside.slots.items) in omega arith),
    )

pub returns-else-is_from-clause-fault : goal.returns-else-is_from-clause-fault
returns-else-is_from-clause-fault c =
    let long = length-map c.self.inside.calls.items (seen_call c.self.inside.procedures c.self.inside.slots.items) in
    let counted = c.self.invariant.core.counted in
    let p = at_read _ _ _ _ _ _ _ c.self.invariant c.args.call c.in-Some.slot c.index.result.now c.index-2.result.now (omega arith) c.index.ensures (sym c.slot.ensures ∙ c.in-Some.is) c.index-2.ensures in
    rw (← c.self.view_is) (inr (
      refl,
      omega arith,
      λ t kept from.
          let same = turn_same _ _ _ _ _ _ _ c.self.invariant c.args.call c.in-Some.slot c.index.result.now c.index-2.result.now p t kept in
          both_ways c.is_from.result c.if-is_from.false (c.is_from.ensures.same.1 (subst (IsFrom c.args.lent.now) (sym same) from)),
    ))
