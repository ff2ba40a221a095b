use Rattle.std.proofs.Common.{sym, ap, ◌∙◌, Some, arith}
use Rattle.tl_core.proofs.OpenCall.{at_read, slot_read, turn_here, turn_same}
use Rattle.tl_core.proofs.interleaving.Core.is_at.Goals as goal

pub index-requires-2 : goal.index-requires-2
index-requires-2 c = let slot = slot_read _ _ _ _ _ _ _ c.self.invariant c.args.call c.in-Some.slot c.index.result.now (omega arith) c.index.ensures (sym c.slot.ensures ∙ c.in-Some.is) in omega arith

pub returns-clause-kept : goal.returns-clause-kept
returns-clause-kept c =
    let p = at_read _ _ _ _ _ _ _ c.self.invariant c.args.call c.in-Some.slot c.index.result.now c.index-2.result.now (omega arith) c.index.ensures (sym c.slot.ensures ∙ c.in-Some.is) c.index-2.ensures in
    rw (← c.self.view_is) (
      (λ same. turn_here _ _ _ _ _ _ _ c.self.invariant c.args.call c.in-Some.slot c.index.result.now c.index-2.result.now p ∙ ap Some (c.is.ensures.0 same)),
      (λ kept. c.is.ensures.1 (turn_same _ _ _ _ _ _ _ c.self.invariant c.args.call c.in-Some.slot c.index.result.now c.index-2.result.now p _ kept)),
    )
