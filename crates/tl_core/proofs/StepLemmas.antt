-- A step of a call, case by case.
use Rattle.std.proofs.Common.{◌≡◌, ℕ, ◌+◌, ◌-◌, ◌<◌, ◌≤◌, ◌||◌, false, List, [], ◌∷◌, length, map, refl, sym, ap, ◌∙◌, subst, inl, inr, arith, Option, Some, None, slice_get, set, Ok, if◌then◌else◌, ℤ}
use Rattle.std.proofs.Math.Bool.{or-false}
use Rattle.std.proofs.lemmas.Bool.{cases_Bool}
use Rattle.tl_tree.specs.Records.{Record}
use Rattle.tl_tree.specs.Trees.{TreeValue}
use Rattle.tl_tree_locking.specs.declared.action.Action.{Action}
use Rattle.tl_tree_locking.specs.declared.action.Action.TheVariants as did
use Rattle.tl_tree_locking.specs.declared.event.Event.{Event}
use Rattle.tl_tree_locking.specs.Actions.{is_end, shared_actions, emitted}
use Rattle.tl_tree_locking.specs.History.{part_of, is_done, records_now}
use Rattle.tl_tree_locking.specs.Holders.{holder_of}
use Rattle.tl_tree_locking.specs.World.{World, as_found}
use Rattle.tl_history.specs.Stored.{Stored}
use Rattle.tl_machine.specs.Runs.{Run, Then}
use Rattle.tl_machine.specs.Turns.{TurnValue, IsTurn, with_call}
use Rattle.tl_core.specs.Stored.{Kept}
use Rattle.tl_core.specs.declared.stepped.Stepped.TheVariants.{Moved}
use Rattle.tl_core.specs.Cores.{CoreValue, code_of, world_of, owed_to, places}
use Rattle.tl_core.specs.Entries.{one_more, stepped_by, node_of, step_answer, after_step}
use Rattle.tl_machine.specs.Along.{IsAlong}
use Rattle.tl_core.specs.Kept.{IsCore, call_value}
use Rattle.tl_core.proofs.Sums.{part-total}
use Rattle.tl_core.proofs.ActionEvents.{part_after, done_after}
use Rattle.tl_core.proofs.CallInWorld.{keep, inside, rest, open_first, answer_first, may_first}
use Rattle.tl_core.proofs.AfterAction.{open_in, then_, did_, code_same, itself_kept, calls_are, core_after}

length-shared_more : (a : Action) (done : List Action) → length (shared_actions (a ∷ done)) ≡ length (shared_actions (a ∷ [])) + length (shared_actions done)
length-shared_more did.Plain done = let e : length (shared_actions done) ≡ 0 + length (shared_actions done) = omega arith in e
length-shared_more (did.Lock x found) done = omega arith
length-shared_more (did.Read x f n) done = let e : length (shared_actions done) ≡ 0 + length (shared_actions done) = omega arith in e
length-shared_more (did.Write x f n) done = let e : length (shared_actions done) ≡ 0 + length (shared_actions done) = omega arith in e
length-shared_more (did.Free x left) done = omega arith
length-shared_more (did.Emit n) done = let e : length (shared_actions done) ≡ 0 + length (shared_actions done) = omega arith in e
length-shared_more did.End done = omega arith

stepped_free : (w : World) (a : Action) (o : Option ℕ) → ((x : ℕ) (found : Record) → a ≡ did.Lock x found → o ≡ None) → stepped_by w a o ≡ Moved (as_found w a)
stepped_free w did.Plain o free = refl
stepped_free w (did.Lock x found) o free = let e = free x found refl in rw e refl
stepped_free w (did.Read x f n) o free = refl
stepped_free w (did.Write x f n) o free = refl
stepped_free w (did.Free x left) o free = refl
stepped_free w (did.Emit n) o free = refl
stepped_free w did.End o free = refl

node_free : (past : List Event) (a : Action) → ((x : ℕ) (found : Record) → a ≡ did.Lock x found → holder_of past x ≡ None) → (x : ℕ) (found : Record) → a ≡ did.Lock x found → holder_of past (node_of a) ≡ None
node_free past a free x found e = ap (λ b. holder_of past (node_of b)) e ∙ free x found e

module _ (v : CoreValue) (now : TreeValue) (kept : List Kept) (holders : List (Option ℕ)) (open_count reserved : ℕ) (h : IsCore v now kept holders open_count reserved) (c : ℕ) (k : Kept) (at : slice_get kept c ≡ Some k) (a : Action) (more : Run) (first : rest v now kept holders open_count reserved h c k at ≡ Then a more) where
  abbrev pub what : Action
  what = did_ v now kept holders open_count reserved h c k at a

  abbrev pub later : CoreValue
  later = then_ v now kept holders open_count reserved h c k at a

  goes_on : is_done c v.past ≡ false
  goes_on = (open_first v now kept holders open_count reserved h c k at a more first).1

  pub over_then : is_done c later.past ≡ is_end what
  over_then = done_after c what v.past ∙ ap (λ b. is_end what || b) goes_on ∙ or-false (is_end what)

  -- an open call is counted in open_count
  pub some_open : 1 ≤ open_count
  some_open =
      let one : open_in v.past c ≡ 1 = ap (λ b. if b then 0 else 1) goes_on in
      let part = part-total (open_in v.past) (length v.calls) c (inside v now kept holders open_count reserved h c k at) in
      let all = h.open_are in
      omega arith

  one_less : (open_count2 : ℕ) → open_count2 ≡ open_count - (if is_end what then 1 else 0) → open_count2 + 1 ≡ open_count + (if is_end what then 0 else 1)
  one_less open_count2 e =
      let some = some_open in
      elim (cases_Bool (is_end what)) [
        | inl ends ↦ let less = rw ends at e in let all : open_count2 + 1 ≡ open_count + 0 = omega arith in rw ends all
        | inr goes ↦ let less = rw goes at e in let all : open_count2 + 1 ≡ open_count + 1 = omega arith in rw goes all
      ]

  -- the places of an open call are among those reserved
  pub places_reserved : k.places ≤ reserved
  places_reserved =
      let part = part-total (owed_to v) (length v.calls) c (inside v now kept holders open_count reserved h c k at) in
      let own = (keep v now kept holders open_count reserved h c k at).places in
      let all = h.reserved_are in
      omega arith

  places_then : owed_to later c ≡ (if is_end what then 0 else k.places - length (shared_actions (what ∷ [])))
  places_then =
      let keep' = keep v now kept holders open_count reserved h c k at in
      let code = code_same v now kept holders open_count reserved h c k at a c in
      let part : length (part_of c later.past) ≡ length (shared_actions (what ∷ [])) + length (part_of c v.past) =
      ap length (part_after c what v.past keep'.done keep'.part) ∙ length-shared_more what keep'.done ∙ ap (λ p. length (shared_actions (what ∷ [])) + length p) (sym keep'.part) in
      let before : k.places ≡ places (code_of v c) (length v.parents) - (length (part_of c v.past) + 1) = let e = keep'.places in rw goes_on at e in
      let after : places (code_of v c) (length v.parents) - (length (part_of c later.past) + 1) ≡ k.places - length (shared_actions (what ∷ [])) = omega arith in
      (λ i. if over_then i then 0 else places (code i).instrs (length v.parents) - (length (part_of c later.past) + 1))
      ∙ ap (λ n. if is_end what then 0 else n) after

  module _ (free : (x : ℕ) (found : Record) → a ≡ did.Lock x found → holder_of v.past x ≡ None) where
    pub moves : Ok (Moved what) ≡ step_answer (world_of v) c
    moves =
        sym (answer_first v now kept holders open_count reserved h c k at a more first
        ∙ ap Ok (stepped_free (world_of v) a (holder_of v.past (node_of a)) (node_free v.past a free)))

    pub moved_on : (turn2 : TurnValue) → turn2 ≡ with_call k.turn turn2.call → IsTurn k.turn.code.instrs v.parents turn2.call
        → IsAlong k.turn.code.instrs v.parents k.args (what ∷ (h.each c k at).done) turn2.call
        → turn2.call.steps ≡ k.turn.call.steps + 1 → turn2.call.is_over ≡ is_end what
        → (reply2 : Option (List ℤ)) → reply2 ≡ (if is_end what then Some (emitted (what ∷ (h.each c k at).done)) else None)
        → (places2 : ℕ) → places2 ≡ (if is_end what then 0 else k.places - length (shared_actions (what ∷ [])))
        → (now2 : TreeValue) → now2 ≡ record { parents = v.parents; records = records_now later.past v.opening }
        → (holders2 : List (Option ℕ)) → length holders2 ≡ length holders → ((x : ℕ) → x < length v.parents → slice_get holders2 x ≡ Some (holder_of later.past x))
        → (open_count2 : ℕ) → open_count2 ≡ open_count - (if is_end what then 1 else 0)
        → (history2 : Stored) → history2.past ≡ later.past → history2.limit ≡ v.limit → history2.reserved + k.places ≡ reserved + places2
        → IsCore (record v { calls = map call_value (set kept c (record { procedure = k.procedure; args = k.args; turn = turn2; reply = reply2; places = places2 })); past = history2.past; limit = history2.limit })
        now2 (set kept c (record { procedure = k.procedure; args = k.args; turn = turn2; reply = reply2; places = places2 })) holders2 open_count2 history2.reserved
    moved_on turn2 same turn along steps over reply2 reply_is places2 places_is now2 now_is holders2 sized holds open_count2 open_is history2 past_is limit_is reserved_is =
        let k2 : Kept = record { procedure = k.procedure; args = k.args; turn = turn2; reply = reply2; places = places2 } in
        let value : call_value k2 ≡ one_more (call_value k) = λ i. record { procedure = k.procedure; code = (same i).code; args = k.args; count = steps i } in
        let may = may_first v now kept holders open_count reserved h c k at a more first free in
        let itself = itself_kept v now kept holders open_count reserved h c k at a turn2 reply2 places2 same turn along (over ∙ sym over_then)
        (reply_is ∙ ap (λ b. if b then Some (emitted (what ∷ (h.each c k at).done)) else None) (sym over_then)) (places_is ∙ sym places_then) in
        let one : open_count2 + (if is_done c v.past then 0 else 1) ≡ open_count + (if is_done c later.past then 0 else 1) =
        ap (λ b. open_count2 + (if b then 0 else 1)) goes_on ∙ one_less open_count2 open_is ∙ ap (λ b. open_count + (if b then 0 else 1)) (sym over_then) in
        subst (λ l. IsCore (record v { calls = map call_value (set kept c k2); past = history2.past; limit = l }) now2 (set kept c k2) holders2 open_count2 history2.reserved) (sym limit_is)
        (core_after v now kept holders open_count reserved h c k at a may k2 value itself now2 now_is holders2 sized holds open_count2 history2.reserved one reserved_is history2.past past_is)

    -- the core then as callers see it
    pub seen : (turn2 : TurnValue) → turn2 ≡ with_call k.turn turn2.call → turn2.call.steps ≡ k.turn.call.steps + 1 → (reply2 : Option (List ℤ)) (places2 : ℕ)
        → (history2 : Stored) → history2.past ≡ later.past → history2.limit ≡ v.limit
        → record v { calls = map call_value (set kept c (record { procedure = k.procedure; args = k.args; turn = turn2; reply = reply2; places = places2 })); past = history2.past; limit = history2.limit }
        ≡ after_step v c (Ok (Moved what))
    seen turn2 same steps reply2 places2 history2 past_is limit_is =
        let k2 : Kept = record { procedure = k.procedure; args = k.args; turn = turn2; reply = reply2; places = places2 } in
        let value : call_value k2 ≡ one_more (call_value k) = λ i. record { procedure = k.procedure; code = (same i).code; args = k.args; count = steps i } in
        let calls = calls_are v now kept holders open_count reserved h c k at a k2 value in
        λ i. record v { calls = calls i; past = past_is i; limit = limit_is i }
