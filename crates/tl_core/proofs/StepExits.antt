-- The answer and the result of a step, depending on the kind of the call's next action.
use Rattle.std.proofs.Common.{◌≡◌, ℕ, ◌+◌, ◌-◌, ◌<◌, ◌≤◌, false, List, [], ◌∷◌, length, map, refl, sym, ap, ◌∙◌, subst, arith, Option, Some, None, slice_get, get_or, set, Ok, if◌then◌else◌, ℤ}
use Rattle.std.proofs.lemmas.List.{length-set}
use Rattle.std.proofs.lemmas.Option.{slice_get_read}
use Rattle.tl_tree.specs.Records.{Record, Records, record_at, put_record}
use Rattle.tl_tree.specs.Trees.{TreeValue}
use Rattle.tl_instr.specs.declared.instr.Instr.{Instr}
use Rattle.tl_budget.specs.Loops.{lock_bound}
use Rattle.tl_tree_locking.specs.declared.action.Action.{Action}
use Rattle.tl_tree_locking.specs.declared.action.Action.TheVariants as did
use Rattle.tl_tree_locking.specs.declared.event.Event.{Event}
use Rattle.tl_tree_locking.specs.declared.event.Event.TheVariants as event
use Rattle.tl_tree_locking.specs.Actions.{is_end, emitted, lock_count, shared_actions}
use Rattle.tl_tree_locking.specs.Alone.{all_taken}
use Rattle.tl_tree_locking.specs.History.{record_now, records_now}
use Rattle.tl_tree_locking.specs.Holders.{holder_of}
use Rattle.tl_tree_locking.specs.World.{World, as_found, past_after, alone_of}
use Rattle.tl_tree_locking.proofs.Records.{record_at-records_now, length-records_now}
use Rattle.tl_history.specs.Stored.{Stored}
use Rattle.tl_machine.specs.Runs.{Run, Then}
use Rattle.tl_machine.specs.Outcomes.{meaning}
use Rattle.tl_machine.specs.Call.{reply_so_far}
use Rattle.tl_machine.specs.BetweenSteps.{IsLocal, Steps, Locks, Frees, Ends, run_left}
use Rattle.tl_machine.specs.Turns.{TurnValue, IsTurn, running, over, Stops, with_call}
use Rattle.tl_machine.specs.declared.call.CallState.{CallState}
use Rattle.tl_machine.specs.declared.want.Want.TheVariants as want
use Rattle.tl_machine.specs.declared.want.Stop.TheVariants as stop
use Rattle.tl_machine.proofs.StartLemmas.{few_locks}
use Rattle.tl_core.specs.Stored.{Kept}
use Rattle.tl_core.specs.declared.stepped.Stepped.TheVariants.{Moved, Blocked}
use Rattle.tl_core.specs.Cores.{CoreValue, code_of, world_of}
use Rattle.tl_core.specs.Entries.{stepped_by, step_answer, after_step}
use Rattle.tl_machine.specs.Along.{IsAlong}
use Rattle.tl_core.specs.Kept.{IsCore, call_value}
use Rattle.tl_machine.proofs.Along.{lock_first, along_step, along_lock, along_free, along_end}
use Rattle.tl_core.proofs.CallInWorld.{keep, call_is, rest, left_tree, left_size, found_tree, found_size, wants_here, open_first, answer_first}
use Rattle.tl_core.proofs.NextPermitted.{lock_inside, lock_fresh, free_inside, some_place}
use Rattle.tl_core.proofs.StoredCalls.{same_item}
use Rattle.tl_core.proofs.AfterAction.{set_holder}
use Rattle.tl_core.proofs.StepLemmas.{moves, moved_on, seen, some_open, places_reserved}

-- a local action doesn't depend on the records
found_same : (w : World) (a : Action) → IsLocal a → as_found w a ≡ a
found_same w did.Plain l = refl
found_same w (did.Lock x found) l = absurd l
found_same w (did.Read x f n) l = refl
found_same w (did.Write x f n) l = refl
found_same w (did.Free x left) l = absurd l
found_same w (did.Emit n) l = refl
found_same w did.End l = absurd l

local_goes_on : (a : Action) → IsLocal a → is_end a ≡ false
local_goes_on did.Plain l = refl
local_goes_on (did.Lock x found) l = absurd l
local_goes_on (did.Read x f n) l = refl
local_goes_on (did.Write x f n) l = refl
local_goes_on (did.Free x left) l = absurd l
local_goes_on (did.Emit n) l = refl
local_goes_on did.End l = absurd l

local_quiet : (c : ℕ) (a : Action) (past : List Event) → IsLocal a → past_after c a past ≡ past
local_quiet c did.Plain past l = refl
local_quiet c (did.Lock x found) past l = absurd l
local_quiet c (did.Read x f n) past l = refl
local_quiet c (did.Write x f n) past l = refl
local_quiet c (did.Free x left) past l = absurd l
local_quiet c (did.Emit n) past l = refl
local_quiet c did.End past l = absurd l

local_stores_none : (a : Action) → IsLocal a → length (shared_actions (a ∷ [])) ≡ 0
local_stores_none did.Plain l = refl
local_stores_none (did.Lock x found) l = absurd l
local_stores_none (did.Read x f n) l = refl
local_stores_none (did.Write x f n) l = refl
local_stores_none (did.Free x left) l = absurd l
local_stores_none (did.Emit n) l = refl
local_stores_none did.End l = absurd l

abbrev put_there : ℕ → Record → TreeValue → TreeValue
put_there x left t = record t { records = put_record t.records x left }

-- a holder that was read and compared
pub holder_read : (holders : List (Option ℕ)) (i x : ℕ) (read was : Option ℕ) → i ≡ x → x < length holders → read ≡ get_or holders i read → read ≡ was → slice_get holders x ≡ Some was
holder_read holders i x read was same lt at is =
    slice_get_read holders (length holders) x read refl lt (at ∙ ap (λ z. get_or holders z read) same) ∙ ap Some is

few_emits : (code : List Instr) (parents : List ℕ) (old new : CallState) → IsTurn code parents old → Ends code parents old new → new.emit_count ≤ 32
few_emits code parents old new (running st) e = let a = e.emits in let b = st.emits in let d = st.accepted.emits in omega arith
few_emits code parents old new (over o) e = let a = e.emits in let b = o.emits in omega arith

module _ (v : CoreValue) (now : TreeValue) (kept : List Kept) (holders : List (Option ℕ)) (open_count reserved : ℕ) (h : IsCore v now kept holders open_count reserved) (c : ℕ) (k : Kept) (at : slice_get kept c ≡ Some k) where
  abbrev left_here : Records
  left_here = left_tree v now kept holders open_count reserved h c k at

  size_here : length left_here ≡ length v.parents
  size_here = left_size v now kept holders open_count reserved h c k at

  -- the bound for the locks of a call
  pub bounded : lock_count (all_taken (alone_of ((world_of v).meanings c) v.opening v.past c).actions) ≤ lock_bound (code_of v c)
  bounded =
      let keep' = keep v now kept holders open_count reserved h c k at in
      let tree = found_tree v now kept holders open_count reserved h c k at in
      let size = found_size v now kept holders open_count reserved h c k at in
      let few = few_locks k.turn.code keep'.valid keep'.accepted v.parents h.sound.tree k.args tree size in
      subst (λ z. lock_count (all_taken (meaning z.code.instrs v.parents z.args tree).actions) ≤ lock_bound z.code.instrs)
      (sym (call_is v now kept holders open_count reserved h c k at)) few

  -- ---- local

  module _ (a : Action) (turn2 : TurnValue) (same : turn2 ≡ with_call k.turn turn2.call) (step : Steps k.turn.code.instrs k.turn.parents k.turn.call a turn2.call) where
    here : Steps k.turn.code.instrs v.parents k.turn.call a turn2.call
    here = subst (λ ps. Steps k.turn.code.instrs ps k.turn.call a turn2.call) (keep v now kept holders open_count reserved h c k at).shape step

    after_it : Run
    after_it = run_left k.turn.code.instrs v.parents turn2.call left_here

    first_is : rest v now kept holders open_count reserved h c k at ≡ Then a after_it
    unfolding after_it
    first_is = here.left left_here size_here

    no_lock : (x : ℕ) (found : Record) → a ≡ did.Lock x found → holder_of v.past x ≡ None
    no_lock x found e = absurd (subst IsLocal e here.is_local)

    pub local_answer : Ok (Moved a) ≡ step_answer (world_of v) c
    local_answer =
        ap (λ b. Ok (Moved b)) (sym (found_same (world_of v) a here.is_local)) ∙ moves v now kept holders open_count reserved h c k at a after_it first_is no_lock

    steps_on : turn2.call.steps ≡ k.turn.call.steps + 1
    steps_on = here.counts.steps

    what_is : as_found (world_of v) a ≡ a
    what_is = found_same (world_of v) a here.is_local

    no_end : is_end (as_found (world_of v) a) ≡ false
    no_end = ap is_end what_is ∙ local_goes_on a here.is_local

    past_same : v.past ≡ past_after c (as_found (world_of v) a) v.past
    past_same = sym (ap (λ b. past_after c b v.past) what_is ∙ local_quiet c a v.past here.is_local)

    pub local_seen : record v { calls = map call_value (set kept c (record { procedure = k.procedure; args = k.args; turn = turn2; reply = k.reply; places = k.places })) }
        ≡ after_step v c (Ok (Moved a))
    local_seen =
        seen v now kept holders open_count reserved h c k at a after_it first_is no_lock turn2 same steps_on k.reply k.places (record { past = v.past; limit = v.limit; reserved = reserved }) past_same refl
        ∙ ap (λ b. after_step v c (Ok (Moved b))) what_is

    pub local_kept : IsCore (record v { calls = map call_value (set kept c (record { procedure = k.procedure; args = k.args; turn = turn2; reply = k.reply; places = k.places })) })
        now (set kept c (record { procedure = k.procedure; args = k.args; turn = turn2; reply = k.reply; places = k.places })) holders open_count reserved
    local_kept =
        let keep' = keep v now kept holders open_count reserved h c k at in
        let goes_on = (open_first v now kept holders open_count reserved h c k at a after_it first_is).1 in
        let along = along_step k.turn.code.instrs v.parents k.args keep'.done k.turn.call turn2.call keep'.along a here in
        let none : k.reply ≡ None = let e = keep'.reply in rw goes_on at e in
        moved_on v now kept holders open_count reserved h c k at a after_it first_is no_lock turn2 same (running here.stands)
        (subst (λ b. IsAlong k.turn.code.instrs v.parents k.args (b ∷ keep'.done) turn2.call) (sym what_is) along)
        steps_on (here.stands.running ∙ sym no_end)
        k.reply (none ∙ ap (λ b. if b then Some (emitted (as_found (world_of v) a ∷ keep'.done)) else None) (sym no_end))
        k.places (places_same ∙ ap (λ b. if b then 0 else k.places - length (shared_actions (as_found (world_of v) a ∷ []))) (sym no_end))
        now (h.now_is ∙ ap (λ p. record { parents = v.parents; records = records_now p v.opening }) past_same)
        holders refl (λ x lt. h.holds x lt ∙ ap (λ p. Some (holder_of p x)) past_same)
        open_count (less_none ∙ ap (λ b. open_count - (if b then 1 else 0)) (sym no_end))
        (record { past = v.past; limit = v.limit; reserved = reserved }) past_same refl refl
      where
        places_same : k.places ≡ k.places - length (shared_actions (as_found (world_of v) a ∷ []))
        places_same =
            let none : length (shared_actions (as_found (world_of v) a ∷ [])) ≡ 0 = ap (λ b. length (shared_actions (b ∷ []))) what_is ∙ local_stores_none a here.is_local in
            omega arith

        less_none : open_count ≡ open_count - 0
        less_none = omega arith

  -- ---- a lock

  module _ (x : ℕ) (wants : Stops k.turn (stop.Lock x)) where
    the_lock : (found : Record) × (more : Run) × (rest v now kept holders open_count reserved h c k at ≡ Then (did.Lock x found) more)
    the_lock = lock_first (rest v now kept holders open_count reserved h c k at) x (wants_here v now kept holders open_count reserved h c k at (want.Stop (stop.Lock x)) wants)

    pub inside_tree : x < length v.parents
    inside_tree =
        let first = the_lock in
        lock_inside v now kept holders open_count reserved h c k at (did.Lock x first.0) first.1 first.2 x first.0 refl

    pub holder_slot : x < length holders
    holder_slot = let lt = inside_tree in let e = h.each_node in omega arith

    pub record_slot : x < length now.records
    record_slot =
        let lt = inside_tree in
        let e : length now.records ≡ length v.parents = ap (λ t. length t.records) h.now_is ∙ length-records_now v.past v.opening ∙ h.sound.size in
        omega arith

    pub has_place : 0 < k.places
    has_place =
        let first = the_lock in
        some_place v now kept holders open_count reserved h c k at (did.Lock x first.0) first.1 first.2 bounded

    pub has_reserved : 0 < reserved
    has_reserved =
        let first = the_lock in
        let own = has_place in
        let all = places_reserved v now kept holders open_count reserved h c k at (did.Lock x first.0) first.1 first.2 in
        omega arith

    pub blocked_answer : (d : ℕ) → slice_get holders x ≡ Some (Some d) → Ok (Blocked x d) ≡ step_answer (world_of v) c
    blocked_answer d there =
        let first = the_lock in
        let holder : holder_of v.past x ≡ Some d = same_item (sym (h.holds x inside_tree) ∙ there) in
        sym (answer_first v now kept holders open_count reserved h c k at (did.Lock x first.0) first.1 first.2
        ∙ ap (λ o. Ok (stepped_by (world_of v) (did.Lock x first.0) o)) holder)

    module _ (free_slot : slice_get holders x ≡ Some None) (found : Record) (found_is : found ≡ record_at now.records x) where
      no_holder : holder_of v.past x ≡ None
      no_holder = same_item (sym (h.holds x inside_tree) ∙ free_slot)

      no_one : (y : ℕ) (r : Record) → did.Lock x (the_lock.0) ≡ did.Lock y r → holder_of v.past y ≡ None
      no_one y r e = let same : x ≡ y = cc in subst (λ z. holder_of v.past z ≡ None) same no_holder

      record_is : found ≡ record_now v.past v.opening x
      record_is =
          let inside = inside_tree in
          let size = h.sound.size in
          found_is ∙ ap (λ t. record_at t.records x) h.now_is ∙ record_at-records_now v.past v.opening x (omega arith)

      pub lock_answer : Ok (Moved (did.Lock x found)) ≡ step_answer (world_of v) c
      lock_answer =
          ap (λ r. Ok (Moved (did.Lock x r))) record_is
          ∙ moves v now kept holders open_count reserved h c k at (did.Lock x the_lock.0) the_lock.1 the_lock.2 no_one

      module _ (turn2 : TurnValue) (same : turn2 ≡ with_call k.turn turn2.call)
          (locked : Locks k.turn.code.instrs k.turn.parents k.turn.call x found turn2.call)
          (history2 : Stored) (appended : history2 ≡ record { past = event.Lock x c found ∷ v.past; limit = v.limit; reserved = reserved - 1 }) where
        lock_here : Locks k.turn.code.instrs v.parents k.turn.call x (record_now v.past v.opening x) turn2.call
        lock_here =
            subst (λ r. Locks k.turn.code.instrs v.parents k.turn.call x r turn2.call) record_is
            (subst (λ ps. Locks k.turn.code.instrs ps k.turn.call x found turn2.call) (keep v now kept holders open_count reserved h c k at).shape locked)

        past_is : history2.past ≡ event.Lock x c (record_now v.past v.opening x) ∷ v.past
        past_is = ap (λ z. z.past) appended ∙ ap (λ r. event.Lock x c r ∷ v.past) record_is

        pub lock_seen : record v { calls = map call_value (set kept c (record { procedure = k.procedure; args = k.args; turn = turn2; reply = k.reply; places = k.places - 1 })); past = history2.past; limit = history2.limit }
            ≡ after_step v c (Ok (Moved (did.Lock x found)))
        lock_seen =
            seen v now kept holders open_count reserved h c k at (did.Lock x the_lock.0) the_lock.1 the_lock.2 no_one turn2 same lock_here.counts.steps k.reply (k.places - 1) history2 past_is (ap (λ z. z.limit) appended)
            ∙ ap (λ r. after_step v c (Ok (Moved (did.Lock x r)))) (sym record_is)

        pub lock_kept : IsCore (record v { calls = map call_value (set kept c (record { procedure = k.procedure; args = k.args; turn = turn2; reply = k.reply; places = k.places - 1 })); past = history2.past; limit = history2.limit })
            now (set kept c (record { procedure = k.procedure; args = k.args; turn = turn2; reply = k.reply; places = k.places - 1 })) (set holders x (Some c)) open_count history2.reserved
        lock_kept =
            let keep' = keep v now kept holders open_count reserved h c k at in
            let goes_on = (open_first v now kept holders open_count reserved h c k at (did.Lock x the_lock.0) the_lock.1 the_lock.2).1 in
            let fresh = lock_fresh v now kept holders open_count reserved h c k at (did.Lock x the_lock.0) the_lock.1 the_lock.2 x the_lock.0 refl in
            let none : k.reply ≡ None = let e = keep'.reply in rw goes_on at e in
            let place = has_place in
            let room = has_reserved in
            let less : history2.reserved ≡ reserved - 1 = ap (λ z. z.reserved) appended in
            let sum : history2.reserved + k.places ≡ reserved + (k.places - 1) = omega arith in
            let all : open_count ≡ open_count - 0 = omega arith in
            moved_on v now kept holders open_count reserved h c k at (did.Lock x the_lock.0) the_lock.1 the_lock.2 no_one turn2 same (running lock_here.stands)
            (along_lock k.turn.code.instrs v.parents k.args keep'.done k.turn.call turn2.call keep'.along x (record_now v.past v.opening x) inside_tree fresh.0 fresh.1 lock_here)
            lock_here.counts.steps lock_here.stands.running k.reply none (k.places - 1) refl now h.now_is
            (set holders x (Some c)) (length-set holders x (Some c)) (λ y lt. set_holder holders x (Some c) 0 y holder_slot (holder_of v.past y) (h.holds y lt))
            open_count all history2 past_is (ap (λ z. z.limit) appended) sum

  -- ---- a free

  module _ (x : ℕ) (wants : Stops k.turn (stop.Free x)) (left : Record) (turn2 : TurnValue) (same : turn2 ≡ with_call k.turn turn2.call)
      (freed : (y : ℕ) × Stops k.turn (stop.Free y) × Frees k.turn.code.instrs k.turn.parents k.turn.call y left turn2.call) where
    free_here : Frees k.turn.code.instrs v.parents k.turn.call x left turn2.call
    free_here =
        let mine = wants_here v now kept holders open_count reserved h c k at in
        let both : want.Stop (stop.Free freed.0) ≡ want.Stop (stop.Free x) = sym (mine (want.Stop (stop.Free freed.0)) freed.1) ∙ mine (want.Stop (stop.Free x)) wants in
        let node : freed.0 ≡ x = cc in
        subst (λ y. Frees k.turn.code.instrs v.parents k.turn.call y left turn2.call) node
        (subst (λ ps. Frees k.turn.code.instrs ps k.turn.call freed.0 left turn2.call) (keep v now kept holders open_count reserved h c k at).shape freed.2)

    free_rest : Run
    free_rest = run_left k.turn.code.instrs v.parents turn2.call (put_record left_here x left)

    free_first : rest v now kept holders open_count reserved h c k at ≡ Then (did.Free x left) free_rest
    unfolding free_rest
    free_first = free_here.left left_here size_here

    free_no_lock : (y : ℕ) (found : Record) → did.Free x left ≡ did.Lock y found → holder_of v.past y ≡ None
    free_no_lock y found e = absurd cc

    pub freed_inside : x < length v.parents
    freed_inside = free_inside v now kept holders open_count reserved h c k at (did.Free x left) free_rest free_first x left refl

    pub freed_slot : x < length holders
    freed_slot = let lt = freed_inside in let e = h.each_node in omega arith

    pub freed_record : x < length now.records
    freed_record =
        let lt = freed_inside in
        let e : length now.records ≡ length v.parents = ap (λ t. length t.records) h.now_is ∙ length-records_now v.past v.opening ∙ h.sound.size in
        omega arith

    pub free_place : 0 < k.places
    free_place = some_place v now kept holders open_count reserved h c k at (did.Free x left) free_rest free_first bounded

    pub free_reserved : 0 < reserved
    free_reserved =
        let own = free_place in
        let all = places_reserved v now kept holders open_count reserved h c k at (did.Free x left) free_rest free_first in
        omega arith

    pub free_answer : Ok (Moved (did.Free x left)) ≡ step_answer (world_of v) c
    free_answer = moves v now kept holders open_count reserved h c k at (did.Free x left) free_rest free_first free_no_lock

    module _ (history2 : Stored) (appended : history2 ≡ record { past = event.Free x c left ∷ v.past; limit = v.limit; reserved = reserved - 1 }) where
      pub free_seen : record v { calls = map call_value (set kept c (record { procedure = k.procedure; args = k.args; turn = turn2; reply = k.reply; places = k.places - 1 })); past = history2.past; limit = history2.limit }
          ≡ after_step v c (Ok (Moved (did.Free x left)))
      free_seen =
          seen v now kept holders open_count reserved h c k at (did.Free x left) free_rest free_first free_no_lock turn2 same free_here.counts.steps k.reply (k.places - 1) history2 (ap (λ z. z.past) appended) (ap (λ z. z.limit) appended)

      pub free_kept : (now2 : TreeValue) → now2 ≡ record now { records = put_record now.records x left }
          → IsCore (record v { calls = map call_value (set kept c (record { procedure = k.procedure; args = k.args; turn = turn2; reply = k.reply; places = k.places - 1 })); past = history2.past; limit = history2.limit })
          now2 (set kept c (record { procedure = k.procedure; args = k.args; turn = turn2; reply = k.reply; places = k.places - 1 })) (set holders x None) open_count history2.reserved
      free_kept now2 put =
          let keep' = keep v now kept holders open_count reserved h c k at in
          let goes_on = (open_first v now kept holders open_count reserved h c k at (did.Free x left) free_rest free_first).1 in
          let none : k.reply ≡ None = let e = keep'.reply in rw goes_on at e in
          let place = free_place in
          let room = free_reserved in
          let less : history2.reserved ≡ reserved - 1 = ap (λ z. z.reserved) appended in
          let sum : history2.reserved + k.places ≡ reserved + (k.places - 1) = omega arith in
          let all : open_count ≡ open_count - 0 = omega arith in
          moved_on v now kept holders open_count reserved h c k at (did.Free x left) free_rest free_first free_no_lock turn2 same (running free_here.stands)
          (along_free k.turn.code.instrs v.parents k.args keep'.done k.turn.call turn2.call keep'.along x left free_here)
          free_here.counts.steps free_here.stands.running k.reply none (k.places - 1) refl
          now2 (put ∙ ap (put_there x left) h.now_is)
          (set holders x None) (length-set holders x None) (λ y lt. set_holder holders x None 0 y freed_slot (holder_of v.past y) (h.holds y lt))
          open_count all history2 (ap (λ z. z.past) appended) (ap (λ z. z.limit) appended) sum

  -- ---- the end

  module _ (turn2 : TurnValue) (same : turn2 ≡ with_call k.turn turn2.call) (ended : Ends k.turn.code.instrs k.turn.parents k.turn.call turn2.call) where
    end_here : Ends k.turn.code.instrs v.parents k.turn.call turn2.call
    end_here = subst (λ ps. Ends k.turn.code.instrs ps k.turn.call turn2.call) (keep v now kept holders open_count reserved h c k at).shape ended

    end_rest : Run
    end_rest = run_left k.turn.code.instrs v.parents turn2.call left_here

    end_first : rest v now kept holders open_count reserved h c k at ≡ Then did.End end_rest
    unfolding end_rest
    end_first = end_here.left left_here size_here

    end_no_lock : (y : ℕ) (found : Record) → did.End ≡ did.Lock y found → holder_of v.past y ≡ None
    end_no_lock y found e = absurd cc

    pub end_place : 0 < k.places
    end_place = some_place v now kept holders open_count reserved h c k at did.End end_rest end_first bounded

    pub end_places : k.places ≤ reserved
    end_places = places_reserved v now kept holders open_count reserved h c k at did.End end_rest end_first

    pub end_open : 1 ≤ open_count
    end_open = some_open v now kept holders open_count reserved h c k at did.End end_rest end_first

    pub end_answer : Ok (Moved did.End) ≡ step_answer (world_of v) c
    end_answer = moves v now kept holders open_count reserved h c k at did.End end_rest end_first end_no_lock

    module _ (history2 : Stored) (past_is : history2.past ≡ event.Done c ∷ v.past) (limit_is : history2.limit ≡ v.limit) (reply : List ℤ) where
      pub end_seen : record v { calls = map call_value (set kept c (record { procedure = k.procedure; args = k.args; turn = turn2; reply = Some reply; places = 0 })); past = history2.past; limit = history2.limit }
          ≡ after_step v c (Ok (Moved did.End))
      end_seen =
          seen v now kept holders open_count reserved h c k at did.End end_rest end_first end_no_lock turn2 same end_here.counts.steps (Some reply) 0 history2 past_is limit_is

      pub end_kept : reply ≡ reply_so_far k.turn.call → history2.reserved ≡ reserved - k.places
          → IsCore (record v { calls = map call_value (set kept c (record { procedure = k.procedure; args = k.args; turn = turn2; reply = Some reply; places = 0 })); past = history2.past; limit = history2.limit })
          now (set kept c (record { procedure = k.procedure; args = k.args; turn = turn2; reply = Some reply; places = 0 })) holders (open_count - 1) history2.reserved
      end_kept reply_is less =
          let keep' = keep v now kept holders open_count reserved h c k at in
          let places = end_places in
          let sum : history2.reserved + k.places ≡ reserved + 0 = omega arith in
          moved_on v now kept holders open_count reserved h c k at did.End end_rest end_first end_no_lock turn2 same
          (over (record { over = end_here.over; empty = end_here.empty; emits = few_emits k.turn.code.instrs v.parents k.turn.call turn2.call keep'.turn end_here }))
          (along_end k.turn.code.instrs v.parents k.args keep'.done k.turn.call turn2.call keep'.along end_here)
          end_here.counts.steps end_here.over (Some reply) (ap Some (reply_is ∙ keep'.along.reply)) 0 refl now h.now_is
          holders refl h.holds (open_count - 1) refl history2 past_is limit_is sum
