-- A core after a call's action.
use Rattle.std.proofs.Common.{◌≡◌, ◌≢◌, ℕ, ◌+◌, ◌-◌, ◌<◌, ◌==◌, List, ◌∷◌, length, map, sym, ap, ap₂, ◌∙◌, subst, inl, inr, arith, Option, Some, None, slice_get, set, if◌then◌else◌, ℤ}
use Rattle.std.proofs.lemmas.Bool.{cases_eq, ne_eqb, eq-eqb}
use Rattle.std.proofs.lemmas.List.{length-set, map-set}
use Rattle.std.proofs.lemmas.Option.{slice_get_within}
use Rattle.tl_tree.specs.Trees.{TreeValue}
use Rattle.tl_tree_locking.specs.declared.action.Action.{Action}
use Rattle.tl_tree_locking.specs.declared.event.Event.{Event}
use Rattle.tl_tree_locking.specs.Actions.{emitted}
use Rattle.tl_tree_locking.specs.History.{is_done, records_now}
use Rattle.tl_tree_locking.specs.Holders.{holder_of}
use Rattle.tl_tree_locking.specs.World.{MayTake, as_found}
use Rattle.tl_tree_locking.proofs.WorldSteps.{admits-past_after}
use Rattle.tl_machine.specs.Turns.{TurnValue, IsTurn, with_call}
use Rattle.tl_core.specs.Stored.{Kept}
use Rattle.tl_core.specs.Cores.{CoreValue, call_of, world_of, total, owed_to, places}
use Rattle.tl_core.specs.Entries.{one_more}
use Rattle.tl_machine.specs.Along.{IsAlong}
use Rattle.tl_core.specs.Kept.{IsCore, IsKept, call_value}
use Rattle.tl_core.proofs.Sums.{total-other}
use Rattle.tl_core.proofs.Rooms.{room_after}
use Rattle.tl_core.proofs.StoredCalls.{slice_get-set_same, slice_get-set_other, same_item}
use Rattle.tl_core.proofs.ActionEvents.{part_after, part_of_others, done_of_others}
use Rattle.tl_core.proofs.CallInWorld.{keep, call_is, inside, after, sound_after, reached_after, same_code}

-- 1 for an open call, 0 for one that is done
abbrev pub open_in : List Event → ℕ → ℕ
open_in past c = if is_done c past then 0 else 1

-- the holders after one was changed
pub set_holder : (holders : List (Option ℕ)) (x : ℕ) (o : Option ℕ) (n y : ℕ) → x < length holders → (was : Option ℕ) → slice_get holders y ≡ Some was
    → slice_get (set holders x o) y ≡ Some (if x == y then o else was)
set_holder holders x o n y lt was at = elim (cases_eq x y) [
  | inl same ↦ let q = eq-eqb x y same in rw q (subst (λ z. slice_get (set holders x o) z ≡ Some o) same (slice_get-set_same holders x o lt))
  | inr other ↦ let q = ne_eqb x y other in rw q (slice_get-set_other holders x y o other ∙ at)
]

module _ (v : CoreValue) (now : TreeValue) (kept : List Kept) (holders : List (Option ℕ)) (open_count reserved : ℕ) (h : IsCore v now kept holders open_count reserved) (c : ℕ) (k : Kept) (at : slice_get kept c ≡ Some k) (a : Action) where
  abbrev pub then_ : CoreValue
  then_ = after v now kept holders open_count reserved h c k at a

  -- the action, where a lock has the record found
  abbrev pub did_ : Action
  did_ = as_found (world_of v) a

  in_list : c < length v.calls
  in_list = inside v now kept holders open_count reserved h c k at

  pub code_same : (d : ℕ) → (call_of then_ d).code ≡ (call_of v d).code
  code_same d = same_code v now kept holders open_count reserved h c k at d

  -- ---- another call

  owed_other : (d : ℕ) → c ≢ d → owed_to then_ d ≡ owed_to v d
  owed_other d other =
      let part = part_of_others c did_ v.past d other in
      let done = done_of_others c did_ v.past d other in
      let code = code_same d in
      λ i. if done i then 0 else places (code i).instrs (length v.parents) - (length (part i) + 1)

  other_kept : (d : ℕ) (kd : Kept) → c ≢ d → IsKept v d kd → IsKept then_ d kd
  other_kept d kd other keep' =
      let part = part_of_others c did_ v.past d other in
      let done = done_of_others c did_ v.past d other in
      record {
        turn = keep'.turn;
        shape = keep'.shape;
        known = keep'.known;
        code = keep'.code;
        valid = keep'.valid;
        accepted = keep'.accepted;
        arity = keep'.arity;
        done = keep'.done;
        along = keep'.along;
        part = part ∙ keep'.part;
        over = keep'.over ∙ sym done;
        reply = keep'.reply ∙ ap (λ b. if b then Some (emitted keep'.done) else None) (sym done);
        places = keep'.places ∙ sym (owed_other d other);
      }

  -- ---- the call itself

  pub itself_kept : (turn2 : TurnValue) (reply2 : Option (List ℤ)) (places2 : ℕ) → turn2 ≡ with_call k.turn turn2.call
      → IsTurn k.turn.code.instrs v.parents turn2.call
      → IsAlong k.turn.code.instrs v.parents k.args (did_ ∷ (keep v now kept holders open_count reserved h c k at).done) turn2.call
      → turn2.call.is_over ≡ is_done c then_.past
      → reply2 ≡ (if is_done c then_.past then Some (emitted (did_ ∷ (keep v now kept holders open_count reserved h c k at).done)) else None)
      → places2 ≡ owed_to then_ c
      → IsKept then_ c (record { procedure = k.procedure; args = k.args; turn = turn2; reply = reply2; places = places2 })
  itself_kept turn2 reply2 places2 same turn along over reply places =
      let keep' = keep v now kept holders open_count reserved h c k at in
      subst (λ u. IsKept then_ c (record { procedure = k.procedure; args = k.args; turn = u; reply = reply2; places = places2 })) (sym same)
      (record {
        turn = turn;
        shape = keep'.shape;
        known = keep'.known;
        code = keep'.code;
        valid = keep'.valid;
        accepted = keep'.accepted;
        arity = keep'.arity;
        done = did_ ∷ keep'.done;
        along = along;
        part = part_after c did_ v.past keep'.done keep'.part;
        over = over;
        reply = reply;
        places = places;
      })

  pub calls_are : (k2 : Kept) → call_value k2 ≡ one_more (call_value k) → map call_value (set kept c k2) ≡ then_.calls
  calls_are k2 same =
      map-set call_value kept c k2
      ∙ ap₂ (λ list call. set list c call) (sym h.calls) (same ∙ ap one_more (sym (call_is v now kept holders open_count reserved h c k at)))

  -- ---- the whole core

  pub core_after : MayTake (world_of v) c a → (k2 : Kept) → call_value k2 ≡ one_more (call_value k) → IsKept then_ c k2
      → (now2 : TreeValue) → now2 ≡ record { parents = v.parents; records = records_now then_.past v.opening }
      → (holders2 : List (Option ℕ)) → length holders2 ≡ length holders → ((x : ℕ) → x < length v.parents → slice_get holders2 x ≡ Some (holder_of then_.past x))
      → (open_count2 reserved2 : ℕ)
      → open_count2 + (if is_done c v.past then 0 else 1) ≡ open_count + (if is_done c then_.past then 0 else 1)
      → reserved2 + k.places ≡ reserved + k2.places
      → (past2 : List Event) → past2 ≡ then_.past
      → IsCore (record v { calls = map call_value (set kept c k2); past = past2 }) now2 (set kept c k2) holders2 open_count2 reserved2
  core_after may k2 same kept2 now2 now_is holders2 sized holds open_count2 reserved2 open_is reserved_is past2 past_is =
      let calls : map call_value (set kept c k2) ≡ then_.calls = calls_are k2 same in
      let long : length then_.calls ≡ length v.calls = length-set v.calls c (one_more (call_of v c)) in
      let was = keep v now kept holders open_count reserved h c k at in
      subst (λ p. IsCore (record v { calls = map call_value (set kept c k2); past = p }) now2 (set kept c k2) holders2 open_count2 reserved2) (sym past_is)
      (subst (λ calls. IsCore (record v { calls = calls; past = then_.past }) now2 (set kept c k2) holders2 open_count2 reserved2) (sym calls)
      (record {
        sound = sound_after v now kept holders open_count reserved h c k at a may;
        reached = reached_after v now kept holders open_count reserved h c k at a may;
        had_room = room_after v c a in_list h.counted h.sound.legal.in_turn h.had_room;
        counted = length-set v.calls c (one_more (call_of v c)) ∙ h.counted ∙ sym (admits-past_after c did_ v.past);
        few = let e = length-set v.calls c (one_more (call_of v c)) in let f = h.few in omega arith;
        calls = sym calls;
        now_is = now_is;
        each_node = sized ∙ h.each_node;
        holds = holds;
        each = λ d kd there. elim (cases_eq c d) [
          | inl this ↦
              let new : slice_get (set kept c k2) d ≡ Some k2 = subst (λ z. slice_get (set kept c k2) z ≡ Some k2) this (slice_get-set_same kept c k2 (slice_get_within kept c k at)) in
              let same_call : k2 ≡ kd = same_item (sym new ∙ there) in
              subst (λ z. IsKept then_ z kd) this (subst (IsKept then_ c) same_call kept2)
          | inr other ↦ other_kept d kd other (h.each d kd (sym (slice_get-set_other kept c d k2 other) ∙ there))
        ];
        open_are =
            let sums = total-other (open_in v.past) (open_in then_.past) (length v.calls) c in_list (λ d lt other. ap (λ b. if b then 0 else 1) (sym (done_of_others c did_ v.past d other))) in
            let before = h.open_are in
            let now_ : open_count2 ≡ total (open_in then_.past) (length v.calls) = omega arith in
            now_ ∙ ap (total (open_in then_.past)) (sym long);
        reserved_are =
            let sums = total-other (owed_to v) (owed_to then_) (length v.calls) c in_list (λ d lt other. sym (owed_other d other)) in
            let before = h.reserved_are in
            let place = was.places in
            let place2 = kept2.places in
            let now_ : reserved2 ≡ total (owed_to then_) (length v.calls) = omega arith in
            now_ ∙ ap (total (owed_to then_)) (sym long);
      }))
