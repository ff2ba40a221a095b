use Rattle.std.proofs.Common.{sym, ap, ◌∙◌, arith, Some}
use Rattle.std.proofs.lemmas.Bool.{both_ways}
use Rattle.std.proofs.lemmas.List.{length-map}
use Rattle.tl_tree_locking.specs.History.{is_done}
use Rattle.tl_core.specs.Stored.{seen_call}
use Rattle.tl_core.proofs.OpenCall.{at_read, slot_read, done_read, known_read, turn_here}
use Rattle.tl_core.proofs.KeptTurns.{turn_of}
use Rattle.tl_core.proofs.interleaving.Core.turn.Goals as goal

pub get-requires : goal.get-requires
get-requires c =
    let long = length-map c.self.inside.calls.items (seen_call c.self.inside.procedures c.self.inside.slots.items) in
    known_read _ _ _ _ _ _ _ c.self.invariant c.args.call c.index-current.result.now (omega arith) c.index-current.ensures

pub returns-in_default-clause-kept : goal.returns-in_default-clause-kept
returns-in_default-clause-kept c =
    rw (← c.self.view_is) (λ goes_on. absurd (both_ways (is_done c.args.call c.self.inside.history.past) goes_on (done_read _ _ _ _ _ _ _ c.self.invariant c.args.call c.index-current.result.now (omega arith) c.index-current.ensures (sym c.slot.ensures ∙ c.in_default.is))))

pub index-requires : goal.index-requires
index-requires c =
    let slot = slot_read _ _ _ _ _ _ _ c.self.invariant c.args.call c.in-Some.slot c.index-current.result.now (omega arith) c.index-current.ensures (sym c.slot.ensures ∙ c.in-Some.is) in
    omega arith

pub returns-clause-kept : goal.returns-clause-kept
returns-clause-kept c =
    let p = at_read _ _ _ _ _ _ _ c.self.invariant c.args.call c.in-Some.slot c.index-current.result.now c.index.result.now (omega arith) c.index-current.ensures (sym c.slot.ensures ∙ c.in-Some.is) c.index.ensures in
    let same = rw c.in_ok-try_clone.was at c.try_clone-2.ensures in
    rw (← c.self.view_is) (λ goes_on. turn_here _ _ _ _ _ _ _ c.self.invariant c.args.call c.in-Some.slot c.index-current.result.now c.index.result.now p ∙ ap Some (sym same))

pub returns-clause-over : goal.returns-clause-over
returns-clause-over c =
    let p = at_read _ _ _ _ _ _ _ c.self.invariant c.args.call c.in-Some.slot c.index-current.result.now c.index.result.now (omega arith) c.index-current.ensures (sym c.slot.ensures ∙ c.in-Some.is) c.index.ensures in
    rw (← c.self.view_is) (λ done. absurd (both_ways (is_done c.args.call c.self.inside.history.past) (turn_of _ _ _ _ _ _ _ c.self.invariant c.args.call c.index.result.now.turn (turn_here _ _ _ _ _ _ _ c.self.invariant c.args.call c.in-Some.slot c.index-current.result.now c.index.result.now p)).is_open.1 done))
