-- For each call there was room when it was admitted.
use Rattle.std.proofs.Common.{◌≡◌, ℕ, ◌+◌, ◌-◌, ◌<◌, ◌≤◌, List, [], ◌∷◌, ◌++◌, length, if◌then◌else◌, refl, sym, ap, ap₂, ◌∙◌, subst, arith}
use Rattle.std.proofs.Math.Seq.{get_or-append_seam}
use Rattle.std.proofs.lemmas.List.{length-append, length-set, length-take-le, get_or-take, get_or_append_left}
use Rattle.tl_instr.specs.declared.instr.Instr.{Instr}
use Rattle.tl_tree_locking.specs.declared.action.Action.{Action}
use Rattle.tl_tree_locking.specs.declared.action.Action.TheVariants as did
use Rattle.tl_tree_locking.specs.declared.event.Event.{Event}
use Rattle.tl_tree_locking.specs.declared.event.Event.TheVariants.{Admit, Lock, Free, Done}
use Rattle.tl_tree_locking.specs.History.{part_of, is_done, admits, InTurn}
use Rattle.tl_tree_locking.specs.World.{as_found, past_after}
use Rattle.tl_core.specs.Cores.{CallValue, CoreValue, no_call, call_of, code_of, world_of, total, open_calls, owed_to, owed, places, room}
use Rattle.tl_core.specs.Entries.{one_more}
use Rattle.tl_core.specs.Reached.{as_of, HasRoomFor, EachHadRoom}
use Rattle.tl_core.proofs.Sums.{total-same}
use Rattle.tl_core.proofs.WorldAfter.{after, code_after}

-- the same history, calls of the same codes, and a limit that isn't less
pub record AreAlike (v w : CoreValue) : Type 0 where
  pub long : length v.calls ≡ length w.calls
  pub codes : (c : ℕ) → c < length v.calls → (call_of v c).code ≡ (call_of w c).code
  pub past : v.past ≡ w.past
  pub parents : v.parents ≡ w.parents
  pub limit : v.limit ≤ w.limit

-- ---- where there is room, there is room in a core that is alike

module _ (v w : CoreValue) (a : AreAlike v w) where
  open_alike : open_calls v ≡ open_calls w
  open_alike = ap₂ (λ p n. total (λ c. if is_done c p then 0 else 1) n) a.past a.long

  owed_to_alike : (c : ℕ) → c < length v.calls → owed_to v c ≡ owed_to w c
  owed_to_alike c known =
      let past = a.past in
      let parents = a.parents in
      let code = a.codes c known in
      λ i. if is_done c (past i) then 0 else places (code i).instrs (length (parents i)) - (length (part_of c (past i)) + 1)

  owed_alike : owed v ≡ owed w
  owed_alike = total-same (owed_to v) (owed_to w) (length v.calls) owed_to_alike ∙ ap (total (owed_to w)) a.long

  room_alike : room v ≤ room w
  room_alike =
      let limit = a.limit in
      let past : length v.past ≡ length w.past = ap length a.past in
      let reserved = owed_alike in
      omega arith

  pub has_room_alike : (code : List Instr) → HasRoomFor v code → HasRoomFor w code
  has_room_alike code h =
      let nodes : places code (length v.parents) ≡ places code (length w.parents) = ap (λ p. places code (length p)) a.parents in record {
        few = let long = a.long in let few = h.few in omega arith;
        few_open = let same = open_alike in let few = h.few_open in omega arith;
        enough = let more = room_alike in let enough = h.enough in omega arith;
      }

-- ---- for each call there was room, if there was in a core whose first calls have the same codes

module _ (v w : CoreValue) (parents : v.parents ≡ w.parents) (limit : v.limit ≤ w.limit) (n : ℕ) (within : n ≤ length v.calls) (inside : n ≤ length w.calls)
    (codes : (c : ℕ) → c < n → (call_of v c).code ≡ (call_of w c).code) where
  alike_then : (past : List Event) → admits past ≤ n → AreAlike (as_of v past) (as_of w past)
  alike_then past few =
      let first = length-take-le (admits past) v.calls (omega arith) in
      let second = length-take-le (admits past) w.calls (omega arith) in record {
        long = first ∙ sym second;
        codes = λ c known.
            ap (λ z. z.code) (get_or-take (admits past) v.calls c no_call (omega arith)) ∙ codes c (omega arith)
            ∙ ap (λ z. z.code) (sym (get_or-take (admits past) w.calls c no_call (omega arith)));
        past = refl;
        parents = parents;
        limit = limit;
      }

  pub had_room_then : (past : List Event) → admits past ≤ n → InTurn past → EachHadRoom v past → EachHadRoom w past
  had_room_then [] few in_turn h = tt
  had_room_then (Admit c ∷ past) few in_turn h =
      let here = in_turn.0 in (
        subst (HasRoomFor (as_of w past)) (ap (λ z. z.instrs) (codes c (omega arith))) (has_room_alike (as_of v past) (as_of w past) (alike_then past (omega arith)) (code_of v c) h.0),
        had_room_then past (omega arith) in_turn.1 h.1,
      )
  had_room_then (Lock x c found ∷ past) few in_turn h = had_room_then past few in_turn.1 h
  had_room_then (Free x c left ∷ past) few in_turn h = had_room_then past few in_turn.1 h
  had_room_then (Done c ∷ past) few in_turn h = had_room_then past few in_turn.1 h

-- ---- an action

other_event : (w : CoreValue) (c : ℕ) (a : Action) (past : List Event) → EachHadRoom w past → EachHadRoom w (past_after c a past)
other_event w c (did.Lock x found) past h = h
other_event w c (did.Free x left) past h = h
other_event w c did.End past h = h
other_event w c (did.Read x f n) past h = h
other_event w c (did.Write x f n) past h = h
other_event w c (did.Emit n) past h = h
other_event w c did.Plain past h = h

pub room_after : (v : CoreValue) (c : ℕ) (a : Action) → c < length v.calls → length v.calls ≡ admits v.past → InTurn v.past → EachHadRoom v v.past
    → EachHadRoom (after v c a) (past_after c (as_found (world_of v) a) v.past)
room_after v c a inside counted in_turn h =
    let long = length-set v.calls c (one_more (call_of v c)) in
    other_event (after v c a) c (as_found (world_of v) a) v.past
    (had_room_then v (after v c a) refl (omega arith) (length v.calls) (omega arith) (omega arith) (λ d known. sym (code_after v c inside d)) v.past (omega arith) in_turn h)

-- ---- an admission

pub room_admitted : (v : CoreValue) (call : CallValue) → length v.calls ≡ admits v.past → InTurn v.past → HasRoomFor v call.code.instrs → EachHadRoom v v.past
    → EachHadRoom (record v { calls = v.calls ++ call ∷ []; past = Admit (length v.calls) ∷ v.past }) (Admit (length v.calls) ∷ v.past)
room_admitted v call counted in_turn has h =
    let w : CoreValue = record v { calls = v.calls ++ call ∷ []; past = Admit (length v.calls) ∷ v.past } in
    let more = length-append v.calls (call ∷ []) in
    let codes : (c : ℕ) → c < length v.calls → (call_of v c).code ≡ (call_of w c).code =
    λ c known. ap (λ z. z.code) (sym (get_or_append_left v.calls (call ∷ []) no_call c known)) in
    let first = length-take-le (admits v.past) w.calls (omega arith) in
    let alike : AreAlike v (as_of w v.past) = record {
      long = counted ∙ sym first;
      codes = λ c known. codes c known ∙ ap (λ z. z.code) (sym (get_or-take (admits v.past) w.calls c no_call (omega arith)));
      past = refl;
      parents = refl;
      limit = omega arith;
    } in
    let new : call_of w (length v.calls) ≡ call = get_or-append_seam v.calls call [] no_call in (
      subst (HasRoomFor (as_of w v.past)) (ap (λ z. z.code.instrs) (sym new)) (has_room_alike v (as_of w v.past) alike call.code.instrs has),
      had_room_then v w refl (omega arith) (length v.calls) (omega arith) (omega arith) codes v.past (omega arith) in_turn h,
    )
