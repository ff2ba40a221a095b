-- An open call of a core: where it is stored, and the core after its turn.
use Rattle.std.proofs.Common.{◌≡◌, ℕ, ◌+◌, ◌-◌, ◌<◌, ◌≤◌, List, length, map, refl, sym, ap, ◌∙◌, subst, inl, inr, arith, Option, Some, None, option_map, ◌≢◌, slice_get, get_or, set, Ok, true, false, Bool, if◌then◌else◌, ℤ}
use Rattle.std.proofs.lemmas.Bool.{lt-ltb, both_ways, cases_lt}
use Rattle.std.proofs.lemmas.List.{length-map, length-set, get_or_past}
use Rattle.std.proofs.lemmas.Option.{slice_get-map, slice_get_read, slice_get_within, get_or_from_slice_get}
use Rattle.tl_tree.specs.Trees.{TreeValue}
use Rattle.tl_tree_locking.specs.declared.event.Event.{Event}
use Rattle.tl_tree_locking.specs.History.{is_done, admits}
use Rattle.tl_machine.specs.Turns.{TurnValue, Stops}
use Rattle.tl_core.specs.declared.call.Call.{Call}
use Rattle.tl_core.specs.declared.call.OpenCall.{OpenCall}
use Rattle.tl_core.specs.declared.call.Progress.{Progress}
use Rattle.tl_core.specs.declared.call.Progress.TheVariants.{Open, Done}
use Rattle.tl_core.specs.declared.stepped.Stepped.TheVariants.{Over}
use Rattle.tl_core.specs.declared.interleaving.TheConstants.{MAX_OPEN}
use Rattle.tl_core.specs.Cores.{CoreValue, call_of, world_of}
use Rattle.tl_core.specs.Entries.{step_answer}
use Rattle.tl_core.proofs.CallInWorld.{admitted, over_done}
use Rattle.tl_tree_locking.specs.Actions.{emitted}
use Rattle.tl_machine.specs.declared.want.Stop.TheVariants as stop
use Rattle.tl_core.proofs.ReaderLemmas.{kept_at, request_known, request_arity, reply_is}
use Rattle.tl_tree_locking.specs.World.{IsEnabled, reply_of}
use Rattle.tl_core.specs.Stored.{Kept, slot_of, reply_in, turn_in, seen_call, seen_turn, open_call, IsStored, AreStored}
use Rattle.tl_core.specs.Kept.{IsCore, IsWholeCore, call_value}
use Rattle.tl_core.proofs.StoredCalls.{IsWithout, same_item, slice_get-set_same, kept_of, stored_of, seen_are, turns_are, other_turn, no_reply, stored_turn, stored_last, stored_moved}

-- call c is stored as s, and its turn is in slot j
pub record IsAt (calls : List Call) (slots : List OpenCall) (c j : ℕ) (s : Call) (o : OpenCall) : Type 0 where
  pub stored : slice_get calls c ≡ Some s
  pub is_open : slot_of s.progress ≡ Some j
  pub slot : slice_get slots j ≡ Some o

-- the call with its turn
abbrev pub in_place : Call → OpenCall → Kept
in_place s o = record { procedure = s.procedure; args = s.args.items; turn = o.turn; reply = None; places = o.places }

-- a call that is stored as done has a reply
some_done : (b : Bool) (p : Progress) (reply : Option (List ℤ)) (given : List ℤ) → slot_of p ≡ None → reply_in p ≡ reply → reply ≡ (if b then Some given else None) → b ≡ true
some_done true p reply out none is given = refl
some_done false (Open j) reply out none is given = absurd cc
some_done false (Done all n) reply out none is given = absurd cc

module _ (v : CoreValue) (now : TreeValue) (calls : List Call) (slots : List OpenCall) (holders : List (Option ℕ)) (reserved capacity : ℕ) (w : IsWholeCore v now calls slots holders reserved capacity) where
  -- an open call has a slot
  pub slot_within : (c j : ℕ) (s : Call) → slice_get calls c ≡ Some s → slot_of s.progress ≡ Some j → j < length slots
  slot_within c j s there is_open =
      let k = kept_of v.procedures calls slots w.kept w.stored c s there in
      slice_get_within slots j (open_call c k.0) ((w.stored.each c k.0 s k.1 there).slot j is_open)

  -- the call that was read, with the contents of its slot
  pub at_read : (c j : ℕ) (s : Call) (o : OpenCall) → c < length calls → s ≡ get_or calls c s → slot_of s.progress ≡ Some j → o ≡ get_or slots j o → IsAt calls slots c j s o
  at_read c j s o lt read is_open read_slot =
      let there : slice_get calls c ≡ Some s = slice_get_read calls (length calls) c s refl lt read in
      record {
        stored = there;
        is_open = is_open;
        slot = slice_get_read slots (length slots) j o refl (slot_within c j s there is_open) read_slot;
      }

  -- a call without a slot is done
  pub done_read : (c : ℕ) (s : Call) → c < length calls → s ≡ get_or calls c s → slot_of s.progress ≡ None → is_done c v.past ≡ true
  done_read c s lt read none =
      let there = slice_get_read calls (length calls) c s refl lt read in
      let k = kept_of v.procedures calls slots w.kept w.stored c s there in
      let its = w.stored.each c k.0 s k.1 there in
      some_done (is_done c v.past) s.progress k.0.reply _ none its.reply (w.core.each c k.0 k.1).reply

  pub admitted_read : (c : ℕ) (s : Call) → c < length calls → s ≡ get_or calls c s → c < admits v.past
  admitted_read c s lt read =
      let there = slice_get_read calls (length calls) c s refl lt read in
      let k = kept_of v.procedures calls slots w.kept w.stored c s there in
      admitted v now w.kept holders (length slots) reserved w.core c k.0 k.1

  -- so a step of it does nothing
  pub over_state : (c : ℕ) (s : Call) → c < length calls → s ≡ get_or calls c s → slot_of s.progress ≡ None → Ok Over ≡ step_answer (world_of v) c
  over_state c s lt read none =
      let over = done_read c s lt read none in
      let known = lt-ltb c (admits v.past) (admitted_read c s lt read) in
      rw (known, over) refl

  pub done_disabled : (c : ℕ) (s : Call) → c < length calls → s ≡ get_or calls c s → slot_of s.progress ≡ None → IsEnabled (world_of v) c → ⊥
  done_disabled c s lt read none enabled = both_ways (is_done c v.past) enabled.is_open.1 (done_read c s lt read none)

  calls_same : length calls ≡ length v.calls
  calls_same = w.stored.long ∙ sym (length-map w.kept call_value) ∙ ap length (sym w.core.calls)

  -- the call's arguments and its reply
  module _ (c : ℕ) (s : Call) (lt : c < length v.calls) (read : s ≡ get_or calls c s) where
    read_there : slice_get calls c ≡ Some s
    read_there = let same = calls_same in slice_get_read calls (length calls) c s refl (omega arith) read

    its_kept : (k : Kept) × (slice_get w.kept c ≡ Some k)
    its_kept = kept_of v.procedures calls slots w.kept w.stored c s read_there

    as_stored : IsStored v.procedures slots c its_kept.0 s
    as_stored = w.stored.each c its_kept.0 s its_kept.1 read_there

    pub known_read : s.procedure < length v.procedures
    known_read = let e = as_stored.procedure in let known = request_known v now w.kept holders (length slots) reserved w.core c its_kept.0 its_kept.1 in omega arith

    pub arity_read : length s.args.items ≡ (call_of v c).code.arity
    arity_read = ap length as_stored.args ∙ request_arity v now w.kept holders (length slots) reserved w.core c its_kept.0 its_kept.1

    pub reply_read : reply_in s.progress ≡ (if is_done c v.past then Some (reply_of (world_of v) c) else None)
    reply_read = as_stored.reply ∙ reply_is v now w.kept holders (length slots) reserved w.core c its_kept.0 its_kept.1

  -- the kept turn of a call that was read
  turn_read : (c : ℕ) (s : Call) → c < length calls → s ≡ get_or calls c s → get_or (map (seen_turn slots) calls) c None ≡ seen_turn slots s
  turn_read c s lt read =
      let there = slice_get_read calls (length calls) c s refl lt read in
      get_or_from_slice_get (map (seen_turn slots) calls) c (seen_turn slots s) None (slice_get-map (seen_turn slots) calls c ∙ ap (λ z. option_map (seen_turn slots) z) there)

  -- a call without a slot has no kept turn
  pub no_turn : (c : ℕ) (s : Call) → c < length calls → s ≡ get_or calls c s → slot_of s.progress ≡ None → get_or (map (seen_turn slots) calls) c None ≡ None
  no_turn c s lt read none = turn_read c s lt read ∙ by_progress s.progress none
    where
      by_progress : (p : Progress) → slot_of p ≡ None → turn_in slots p ≡ None
      by_progress (Open j) is = absurd cc
      by_progress (Done reply n) is = refl

  -- a call with a kept turn exists
  pub turned_inside : (c : ℕ) (t : TurnValue) → get_or (map (seen_turn slots) calls) c None ≡ Some t → c < length calls
  turned_inside c t kept = elim (cases_lt c (length calls)) [
    | inl lt ↦ lt
    | inr ge ↦
        let long = length-map calls (seen_turn slots) in
        let none : None ≡ Some t = sym (get_or_past (map (seen_turn slots) calls) c None (omega arith)) ∙ kept in
        absurd cc
  ]

  -- a call with a kept turn has a slot
  pub turned_open : (c : ℕ) (t : TurnValue) (s : Call) → get_or (map (seen_turn slots) calls) c None ≡ Some t → s ≡ get_or calls c s → slot_of s.progress ≡ None → ⊥
  turned_open c t s kept read none =
      let nothing : None ≡ Some t = sym (no_turn c s (turned_inside c t kept) read none) ∙ kept in
      absurd cc

  -- the slot of a call that isn't done
  pub slot_open : (c : ℕ) → c < admits v.past → is_done c v.past ≡ false → (j : ℕ) × (o : OpenCall) × (slice_get slots j ≡ Some o) × (o.call ≡ c)
  slot_open c lt goes_on =
      let k = kept_at v now w.kept holders (length slots) reserved w.core c lt in
      let s = stored_of v.procedures calls slots w.kept w.stored c k.0 k.1 in
      let none : k.0.reply ≡ None = let e = (w.core.each c k.0 k.1).reply in rw goes_on at e in
      find s.0.progress k.0 (s.2.reply ∙ none) s.2.slot
    where
      find : (p : Progress) (k : Kept) → reply_in p ≡ None → ((j : ℕ) → slot_of p ≡ Some j → slice_get slots j ≡ Some (open_call c k))
          → (j : ℕ) × (o : OpenCall) × (slice_get slots j ≡ Some o) × (o.call ≡ c)
      find (Open j) k none slot = (j, open_call c k, slot j refl, refl)
      find (Done reply n) k none slot = absurd cc

  -- the slot of a call that was read
  pub slot_read : (c j : ℕ) (s : Call) → c < length calls → s ≡ get_or calls c s → slot_of s.progress ≡ Some j → j < length slots
  slot_read c j s lt read is_open = slot_within c j s (slice_get_read calls (length calls) c s refl lt read) is_open

  -- the same for a call that was read again
  pub at_read_again : (c j : ℕ) (s again : Call) (o : OpenCall) → c < length calls → s ≡ get_or calls c s → again ≡ get_or calls c again → slot_of s.progress ≡ Some j → o ≡ get_or slots j o
      → IsAt calls slots c j again o
  at_read_again c j s again o lt read read_again is_open read_slot =
      let there = slice_get_read calls (length calls) c s refl lt read in
      let there_again = slice_get_read calls (length calls) c again refl lt read_again in
      let same : s ≡ again = same_item (sym there ∙ there_again) in
      at_read c j again o lt read_again (subst (λ z. slot_of z.progress ≡ Some j) same is_open) read_slot

  module _ (c j : ℕ) (s : Call) (o : OpenCall) (p : IsAt calls slots c j s o) where
    the_kept : (k : Kept) × (slice_get w.kept c ≡ Some k)
    the_kept = kept_of v.procedures calls slots w.kept w.stored c s p.stored

    its : IsStored v.procedures slots c the_kept.0 s
    its = w.stored.each c the_kept.0 s the_kept.1 p.stored

    in_its_slot : open_call c the_kept.0 ≡ o
    in_its_slot = same_item (sym (its.slot j p.is_open) ∙ p.slot)

    pub number_is : c ≡ o.call
    number_is = ap (λ z. z.call) in_its_slot

    pub kept_here : slice_get w.kept c ≡ Some (in_place s o)
    kept_here =
        let here = its in
        let none = no_reply v.procedures calls slots w.kept w.stored c the_kept.0 s the_kept.1 p.stored j p.is_open in
        let slot = in_its_slot in
        let procedure = sym here.procedure in
        let args = sym here.args in
        the_kept.1 ∙ ap Some (λ i. record { procedure = procedure i; args = args i; turn = (slot i).turn; reply = none i; places = (slot i).places })

    -- the kept turn of the call
    pub turn_here : get_or (map (seen_turn slots) calls) c None ≡ Some o.turn
    turn_here =
        let there : slice_get (map (seen_turn slots) calls) c ≡ Some (seen_turn slots s) = slice_get-map (seen_turn slots) calls c ∙ ap (λ z. option_map (seen_turn slots) z) p.stored in
        get_or_from_slice_get (map (seen_turn slots) calls) c (seen_turn slots s) None there ∙ in_slot s.progress p.is_open
      where
        in_slot : (progress : Progress) → slot_of progress ≡ Some j → turn_in slots progress ≡ Some o.turn
        in_slot (Open i) is = ap (λ n. option_map (λ z. z.turn) (slice_get slots n)) (same_item is) ∙ ap (λ z. option_map (λ x. x.turn) z) p.slot
        in_slot (Done reply n) is = absurd cc

    -- so it is the requested one
    pub turn_same : (t : TurnValue) → get_or (map (seen_turn slots) calls) c None ≡ Some t → o.turn ≡ t
    turn_same t kept = same_item (sym turn_here ∙ kept)

    -- the call's turn isn't over
    pub goes_on : Stops o.turn stop.Over → ⊥
    goes_on wants =
        let over = over_done v now w.kept holders (length slots) reserved w.core c (in_place s o) kept_here wants in
        let reply : None ≡ Some (emitted (w.core.each c (in_place s o) kept_here).done) = let e = (w.core.each c (in_place s o) kept_here).reply in rw over at e in
        absurd cc

    module _ (turn2 : TurnValue) (places2 : ℕ) (same_code : turn2.code ≡ o.turn.code) where
      abbrev pub kept_then : List Kept
      kept_then = set w.kept c (record { procedure = s.procedure; args = s.args.items; turn = turn2; reply = None; places = places2 })

      abbrev pub slots_then : List OpenCall
      slots_then = set slots j (record { call = o.call; places = places2; turn = turn2 })

      pub stored_then : AreStored v.procedures calls slots_then kept_then
      stored_then =
          subst (λ n. AreStored v.procedures calls (set slots j (record { call = n; places = places2; turn = turn2 })) kept_then) number_is
          (stored_turn v.procedures calls slots w.kept w.stored c (in_place s o) s kept_here p.stored j p.is_open turn2 places2 same_code)

      -- the turn afterwards
      pub turn_then : get_or (map (seen_turn slots_then) calls) c None ≡ Some turn2
      turn_then =
          let there = slice_get-map (seen_turn slots_then) calls c ∙ ap (λ z. option_map (seen_turn slots_then) z) p.stored in
          get_or_from_slice_get (map (seen_turn slots_then) calls) c (seen_turn slots_then s) None there ∙ in_slot_then s.progress p.is_open
        where
          in_slot_then : (progress : Progress) → slot_of progress ≡ Some j → turn_in slots_then progress ≡ Some turn2
          in_slot_then (Open i) is =
              ap (λ n. option_map (λ z. z.turn) (slice_get slots_then n)) (same_item is)
              ∙ ap (λ z. option_map (λ x. x.turn) z) (slice_get-set_same slots j (record { call = o.call; places = places2; turn = turn2 }) (slice_get_within slots j o p.slot))
          in_slot_then (Done reply n) is = absurd cc

      pub turns_then : (d : ℕ) → d ≢ c → get_or (map (seen_turn slots_then) calls) d None ≡ get_or (map (seen_turn slots) calls) d None
      turns_then d other =
          ap (λ l. get_or l d None) (turns_are v.procedures calls slots_then kept_then stored_then)
          ∙ other_turn w.kept c (record { procedure = s.procedure; args = s.args.items; turn = turn2; reply = None; places = places2 }) d other
          ∙ sym (ap (λ l. get_or l d None) (turns_are v.procedures calls slots w.kept w.stored))

      pub seen_then : map (seen_call v.procedures slots_then) calls ≡ map call_value kept_then
      seen_then = seen_are v.procedures calls slots_then kept_then stored_then

      pub seen_on : (past2 : List Event) (limit2 : ℕ)
          → record v { calls = map (seen_call v.procedures slots_then) calls; past = past2; limit = limit2 } ≡ record v { calls = map call_value kept_then; past = past2; limit = limit2 }
      seen_on past2 limit2 = ap (λ l. record v { calls = l; past = past2; limit = limit2 }) seen_then

      pub whole_then : (past2 : List Event) (limit2 : ℕ) (now2 : TreeValue) (holders2 : List (Option ℕ)) (reserved2 : ℕ)
          → IsCore (record v { calls = map call_value kept_then; past = past2; limit = limit2 }) now2 kept_then holders2 (length slots) reserved2
          → (capacity2 : ℕ) → MAX_OPEN ≤ capacity2
          → IsWholeCore (record v { calls = map (seen_call v.procedures slots_then) calls; past = past2; limit = limit2 }) now2 calls slots_then holders2 reserved2 capacity2
      whole_then past2 limit2 now2 holders2 reserved2 core capacity2 room =
          let long : length slots_then ≡ length slots = length-set slots j (record { call = o.call; places = places2; turn = turn2 }) in
          record {
            kept = kept_then;
            stored = stored_then;
            core =
                subst (λ l. IsCore (record v { calls = l; past = past2; limit = limit2 }) now2 kept_then holders2 (length slots_then) reserved2) (sym seen_then)
                (subst (λ n. IsCore (record v { calls = map call_value kept_then; past = past2; limit = limit2 }) now2 kept_then holders2 n reserved2) (sym long) core);
            few_open = let few = w.few_open in omega arith;
            room = room;
          }

    -- the core after the call's end: its turn is removed, and the last slot may have moved to its place
    module _ (turn2 : TurnValue) (reply2 : List ℤ) (steps2 : ℕ) (same_code : turn2.code ≡ o.turn.code) (counted : steps2 ≡ turn2.call.steps) (slots2 : List OpenCall) (r : IsWithout slots j slots2) where
      abbrev pub kept_over : List Kept
      kept_over = set w.kept c (record { procedure = s.procedure; args = s.args.items; turn = turn2; reply = Some reply2; places = 0 })

      abbrev pub calls_over : List Call
      calls_over = set calls c (record s { progress = Done reply2 steps2 })

      pub over_last : length slots ≡ j + 1 → AreStored v.procedures calls_over slots2 kept_over
      over_last last =
          stored_last v.procedures calls slots w.kept w.stored c (in_place s o) s kept_here p.stored j p.is_open turn2 reply2 steps2 same_code counted slots2 r last

      pub over_moved : (om : OpenCall) → slice_get slots2 j ≡ Some om → (x : Call) → slice_get calls_over om.call ≡ Some x
          → AreStored v.procedures (set calls_over om.call (record x { progress = Open j })) slots2 kept_over
      over_moved om at_om x at_x =
          stored_moved v.procedures calls slots w.kept w.stored c (in_place s o) s kept_here p.stored j p.is_open turn2 reply2 steps2 same_code counted slots2 r om at_om x at_x

      -- the call whose slot has moved is one of the core's
      pub moved_inside : (om : OpenCall) → slice_get slots2 j ≡ Some om → om.call < length calls
      moved_inside om at_om =
          let lt = slice_get_within slots2 j om at_om in
          let x = w.stored.each_slot (length slots2) om (sym (r.same lt) ∙ at_om) in
          slice_get_within calls om.call x.0 x.1

      pub moved_there : (om : OpenCall) → slice_get slots2 j ≡ Some om → (x : Call) → x ≡ get_or calls_over om.call x → slice_get calls_over om.call ≡ Some x
      moved_there om at_om x read =
          let inside = moved_inside om at_om in
          let long : length calls_over ≡ length calls = length-set calls c (record s { progress = Done reply2 steps2 }) in
          slice_get_read calls_over (length calls_over) om.call x refl (omega arith) read

      pub turns_over : (calls2 : List Call) → AreStored v.procedures calls2 slots2 kept_over → (d : ℕ) → d ≢ c → get_or (map (seen_turn slots2) calls2) d None ≡ get_or (map (seen_turn slots) calls) d None
      turns_over calls2 stored d other =
          ap (λ l. get_or l d None) (turns_are v.procedures calls2 slots2 kept_over stored)
          ∙ other_turn w.kept c (record { procedure = s.procedure; args = s.args.items; turn = turn2; reply = Some reply2; places = 0 }) d other
          ∙ sym (ap (λ l. get_or l d None) (turns_are v.procedures calls slots w.kept w.stored))

      pub seen_over : (calls2 : List Call) → AreStored v.procedures calls2 slots2 kept_over → (past2 : List Event) (limit2 : ℕ)
          → record v { calls = map (seen_call v.procedures slots2) calls2; past = past2; limit = limit2 } ≡ record v { calls = map call_value kept_over; past = past2; limit = limit2 }
      seen_over calls2 stored past2 limit2 = ap (λ l. record v { calls = l; past = past2; limit = limit2 }) (seen_are v.procedures calls2 slots2 kept_over stored)

      pub whole_over : (calls2 : List Call) → AreStored v.procedures calls2 slots2 kept_over
          → (past2 : List Event) (limit2 : ℕ) (now2 : TreeValue) (holders2 : List (Option ℕ)) (reserved2 : ℕ)
          → IsCore (record v { calls = map call_value kept_over; past = past2; limit = limit2 }) now2 kept_over holders2 (length slots - 1) reserved2
          → (capacity2 : ℕ) → MAX_OPEN ≤ capacity2
          → IsWholeCore (record v { calls = map (seen_call v.procedures slots2) calls2; past = past2; limit = limit2 }) now2 calls2 slots2 holders2 reserved2 capacity2
      whole_over calls2 stored past2 limit2 now2 holders2 reserved2 core capacity2 room =
          let gone = r.long in
          let long : length slots2 ≡ length slots - 1 = omega arith in
          record {
            kept = kept_over;
            stored = stored;
            core =
                subst (λ l. IsCore (record v { calls = l; past = past2; limit = limit2 }) now2 kept_over holders2 (length slots2) reserved2) (sym (seen_are v.procedures calls2 slots2 kept_over stored))
                (subst (λ n. IsCore (record v { calls = map call_value kept_over; past = past2; limit = limit2 }) now2 kept_over holders2 n reserved2) (sym long) core);
            few_open = let few = w.few_open in omega arith;
            room = room;
          }
