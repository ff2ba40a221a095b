-- The turns that a core keeps.
use Rattle.std.proofs.Common.{◌≡◌, ℕ, List, length, map, refl, sym, ap, ◌∙◌, subst, inl, inr, arith, Option, Some, None, option_map, slice_get, get_or, drop, ℤ}
use Rattle.std.proofs.lemmas.Bool.{cases_lt}
use Rattle.std.proofs.lemmas.List.{length-map, get_or_past}
use Rattle.std.proofs.lemmas.Option.{slice_get-map, get_or_from_slice_get}
use Rattle.tl_tree.specs.Trees.{TreeValue}
use Rattle.tl_tree_locking.specs.History.{part_of, is_done, IsOpen}
use Rattle.tl_tree_locking.specs.declared.action.Action.{Action}
use Rattle.tl_machine.specs.Stopped.{after_action}
use Rattle.tl_machine.specs.Turns.{TurnValue, Stops, left_of, with_call}
use Rattle.tl_machine.specs.declared.want.Stop.{Stop}
use Rattle.tl_core.specs.declared.call.Call.{Call}
use Rattle.tl_core.specs.declared.call.OpenCall.{OpenCall}
use Rattle.tl_core.specs.Stored.{Kept, seen_turn}
use Rattle.tl_core.specs.Cores.{CoreValue, IsTurnOf}
use Rattle.tl_core.specs.Followed.{NextEndsStop}
use Rattle.tl_core.specs.Kept.{IsWholeCore}
use Rattle.tl_core.proofs.StoredCalls.{unless_done, open_turn, turns_are, some_at}
use Rattle.tl_core.proofs.ReaderLemmas.{kept_at}
use Rattle.tl_core.proofs.CallInWorld.{call_is, admitted, found_tree, found_size}
use Rattle.tl_machine.proofs.Along.{has_found}
use Rattle.tl_machine.proofs.RestOfCall.{is_rest}
use Rattle.tl_machine.specs.Runs.{actions}
use Rattle.tl_machine.specs.Outcomes.{meaning}
use Rattle.tl_machine.specs.BetweenSteps.{run_left}
use Rattle.tl_core.proofs.FollowLemmas.{next_at_stop}
use Rattle.tl_core.proofs.FollowAnswers.{none_reply}

-- call c is stored with this turn, and isn't done
pub record IsKeptWith (kept : List Kept) (c : ℕ) (t : TurnValue) : Type 0 where
  pub call : Kept
  pub there : slice_get kept c ≡ Some call
  pub none : call.reply ≡ None
  pub turn : call.turn ≡ t

of_reply : (reply : Option (List ℤ)) (turn t : TurnValue) → unless_done reply turn ≡ Some t → (reply ≡ None) × (turn ≡ t)
of_reply None turn t is = (refl, cc)
of_reply (Some reply) turn t is = absurd cc

module _ (v : CoreValue) (now : TreeValue) (calls : List Call) (slots : List OpenCall) (holders : List (Option ℕ)) (reserved capacity : ℕ) (w : IsWholeCore v now calls slots holders reserved capacity) where
  turns_kept : (c : ℕ) → get_or (map (seen_turn slots) calls) c None ≡ get_or (map open_turn w.kept) c None
  turns_kept c = ap (λ l. get_or l c None) (turns_are v.procedures calls slots w.kept w.stored)

  turn_at : (c : ℕ) (k : Kept) → slice_get w.kept c ≡ Some k → get_or (map (seen_turn slots) calls) c None ≡ open_turn k
  turn_at c k there = turns_kept c ∙ get_or_from_slice_get (map open_turn w.kept) c (open_turn k) None (slice_get-map open_turn w.kept c ∙ ap (λ z. option_map open_turn z) there)

  pub kept_with : (c : ℕ) (t : TurnValue) → get_or (map (seen_turn slots) calls) c None ≡ Some t → IsKeptWith w.kept c t
  kept_with c t is = elim (cases_lt c (length w.kept)) [
    | inl lt ↦
        let k = some_at w.kept c lt in
        let both = of_reply k.0.reply k.0.turn t (sym (turn_at c k.0 k.1) ∙ is) in
        record { call = k.0; there = k.1; none = both.0; turn = both.1 }
    | inr ge ↦
        let long = length-map w.kept open_turn in
        let nothing : None ≡ Some t = sym (get_or_past (map open_turn w.kept) c None (omega arith)) ∙ sym (turns_kept c) ∙ is in
        absurd cc
  ]

  pub turn_of : (c : ℕ) (t : TurnValue) → get_or (map (seen_turn slots) calls) c None ≡ Some t → IsTurnOf v c t
  turn_of c t is =
      let k = kept_with c t is in
      let keep = w.core.each c k.call k.there in
      let seen = call_is v now w.kept holders (length slots) reserved w.core c k.call k.there in
      let same = k.turn in
      record {
        is_open = (admitted v now w.kept holders (length slots) reserved w.core c k.call k.there, none_reply (is_done c v.past) _ (sym k.none ∙ keep.reply));
        code = ap (λ z. z.code) (sym same) ∙ ap (λ z. z.code) (sym seen);
        parents = ap (λ z. z.parents) (sym same) ∙ keep.shape;
        count = ap (λ z. z.call.steps) (sym same) ∙ ap (λ z. z.count) (sym seen);
        rest =
            let found = found_tree v now w.kept holders (length slots) reserved w.core c k.call k.there in
            let its_rest = is_rest k.call.turn.code v.parents k.call.args keep.done k.call.turn.call found keep.valid keep.accepted w.core.sound.tree keep.turn keep.along
            (found_size v now w.kept holders (length slots) reserved w.core c k.call k.there) (has_found keep.done (part_of c v.past) v.opening keep.part) in
            ap (λ z. actions (left_of z found)) (sym same) ∙ ap (λ ps. actions (run_left k.call.turn.code.instrs ps k.call.turn.call found)) keep.shape ∙ its_rest
            ∙ ap (λ z. drop z.count (meaning z.code.instrs v.parents z.args found).actions) (sym seen);
      }

  pub turned : (c : ℕ) → IsOpen c v.past → (t : TurnValue) × (get_or (map (seen_turn slots) calls) c None ≡ Some t)
  turned c is_open =
      let k = kept_at v now w.kept holders (length slots) reserved w.core c is_open.0 in
      let goes_on = is_open.1 in
      let none : k.0.reply ≡ None = let e = (w.core.each c k.0 k.1).reply in rw goes_on at e in
      (k.0.turn, turn_at c k.0 k.1 ∙ ap (λ r. unless_done r k.0.turn) none)

  -- if the turn stops at s, the call's next action is the one at s
  pub at_stop : (c : ℕ) (t : TurnValue) (s : Stop) → get_or (map (seen_turn slots) calls) c None ≡ Some t → Stops t s → NextEndsStop v c s
  at_stop c t s is stops =
      let k = kept_with c t is in
      let its = turn_of c t is in
      next_at_stop v now w.kept holders (length slots) reserved w.core c k.call k.there its.is_open.1 s (subst (λ z. Stops z s) (sym k.turn) stops)

-- ---- a turn behind what its call did

-- the action was a lock or a free, and the turn was changed accordingly
pub turned_by : (before t after : TurnValue) (b a : Action) → before ≡ t → after ≡ with_call before after.call → after.call ≡ after_action before.code.instrs before.parents before.call b → b ≡ a
    → after ≡ with_call t (after_action t.code.instrs t.parents t.call a)
turned_by before t after b a same_turn same exact is =
    same ∙ ap (with_call before) exact
    ∙ ap (λ d. with_call before (after_action before.code.instrs before.parents before.call d)) is
    ∙ ap (λ u. with_call u (after_action u.code.instrs u.parents u.call a)) same_turn
