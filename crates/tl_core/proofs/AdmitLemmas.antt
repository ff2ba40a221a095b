-- A core after an admission.
use Rattle.std.proofs.Common.{◌≡◌, ◌≢◌, ℕ, zero, suc, ◌+◌, ◌-◌, ◌<◌, ◌≤◌, ◌==◌, Bool, true, false, List, [], ◌∷◌, ◌++◌, length, map, refl, sym, ap, ap₂, ◌∙◌, subst, inl, inr, arith, Option, Some, None, slice_get, get_or, if◌then◌else◌, ℤ}
use Rattle.std.proofs.lemmas.Bool.{cases_eq, ne_eqb, eq-eqb}
use Rattle.std.proofs.lemmas.List.{length-map, length-append, map-append}
use Rattle.std.proofs.lemmas.Option.{slice_get_within}
use Rattle.tl_tree.specs.Records.{Records}
use Rattle.tl_tree.specs.Trees.{TreeValue}
use Rattle.tl_instr.specs.Codes.{CodeValue, IsCode}
use Rattle.tl_verify.specs.Acceptable.{Acceptable}
use Rattle.tl_tree_locking.specs.declared.event.Event.{Event}
use Rattle.tl_tree_locking.specs.declared.event.Event.TheVariants as event
use Rattle.tl_tree_locking.specs.Alone.{Outcome, EndsOnce, IsAlone}
use Rattle.tl_tree_locking.specs.History.{part_of, is_done, admits}
use Rattle.tl_tree_locking.specs.World.{IsSound, Reached, Admits, after_admission}
use Rattle.tl_tree_locking.proofs.ReachedWorlds.{sound_after_admission, unadmitted_done}
use Rattle.tl_tree_locking.proofs.WorldSteps.{unadmitted}
use Rattle.tl_history.specs.Stored.{Stored}
use Rattle.tl_machine.specs.Runs.{Run, actions}
use Rattle.tl_machine.specs.Alone.{alone}
use Rattle.tl_machine.specs.Call.{reply_so_far}
use Rattle.tl_machine.specs.Outcomes.{meaning}
use Rattle.tl_machine.specs.BetweenSteps.{run_left}
use Rattle.tl_machine.specs.Turns.{TurnValue, IsTurn}
use Rattle.tl_machine.proofs.StartLemmas.{is_alone}
use Rattle.tl_core.specs.declared.call.Call.{Call}
use Rattle.tl_core.specs.declared.call.OpenCall.{OpenCall}
use Rattle.tl_core.specs.declared.call.Progress.TheVariants.{Open}
use Rattle.tl_core.specs.declared.interleaving.TheConstants.{MAX_OPEN}
use Rattle.tl_core.specs.Stored.{Kept, seen_call, seen_turn, AreStored}
use Rattle.tl_core.proofs.StoredCalls.{more_at, seen_are, turns_are, earlier_turn, stored_more}
use Rattle.tl_core.specs.Cores.{CoreValue, no_call, call_of, code_of, world_of, total, open_calls, owed_to, places, room}
use Rattle.std.specs.Option.{option_map_or}
use Rattle.tl_procedures.specs.Names.{number_of}
use Rattle.tl_core.specs.Entries.{procedure_at, with_call_of, after_admission as core_after}
use Rattle.tl_core.specs.Begun.{Begins}
use Rattle.tl_core.specs.Reached.{EachHadRoom}
use Rattle.tl_core.specs.Kept.{IsCore, IsWholeCore, IsKept, call_value}
use Rattle.tl_machine.proofs.Along.{along_start}
use Rattle.tl_core.proofs.Sums.{total-same}
use Rattle.tl_core.proofs.Rooms.{room_admitted}
use Rattle.tl_core.proofs.AfterAction.{open_in}

last_of : {X : Type 0} → (xs : List X) (x other : X) → get_or (xs ++ x ∷ []) (length xs) other ≡ x
last_of [] x other = refl
last_of (y ∷ xs) x other = last_of xs x other

others_of : {X : Type 0} → (xs : List X) (x : X) (d : ℕ) (other : X) → length xs ≢ d → get_or (xs ++ x ∷ []) d other ≡ get_or xs d other
others_of [] x zero other ne = absurd (ne refl)
others_of [] x (suc d) other ne = refl
others_of (y ∷ xs) x zero other ne = refl
others_of (y ∷ xs) x (suc d) other ne = others_of xs x d other (λ e. ne (ap suc e))

pub get_or-last : {X : Type 0} → (xs : List X) (x : X) (d : ℕ) (other : X) → get_or (xs ++ x ∷ []) d other ≡ (if length xs == d then x else get_or xs d other)
get_or-last xs x d other = elim (cases_eq (length xs) d) [
  | inl same ↦ let q = eq-eqb (length xs) d same in rw q (subst (λ z. get_or (xs ++ x ∷ []) z other ≡ x) same (last_of xs x other))
  | inr ne ↦ let q = ne_eqb (length xs) d ne in rw q (others_of xs x d other ne)
]

-- a call that begins isn't over
not_over : (b : Bool) (r left : Run) (s : Run) → EndsOnce (actions r) → (if b then s else left) ≡ r → actions s ≡ [] → b ≡ false
not_over true r left s ends same none = absurd (subst EndsOnce (ap actions (sym same) ∙ none) ends)
not_over false r left s ends same none = refl

module _ (v : CoreValue) (now : TreeValue) (kept : List Kept) (holders : List (Option ℕ)) (open_count reserved : ℕ) (h : IsCore v now kept holders open_count reserved) (k : Kept)
    (shape : k.turn.parents ≡ v.parents) (known : k.procedure < length v.procedures) (code : (procedure_at v k.procedure).code ≡ k.turn.code)
    (valid : IsCode k.turn.code) (accepted : Acceptable k.turn.code.instrs) (arity : length k.args ≡ k.turn.code.arity)
    (turn : IsTurn k.turn.code.instrs v.parents k.turn.call)
    (left : (t : Records) → run_left k.turn.code.instrs v.parents k.turn.call t ≡ alone k.turn.code.instrs v.parents k.args t)
    (steps : k.turn.call.steps ≡ 0) (reply : reply_so_far k.turn.call ≡ []) (none : k.reply ≡ None)
    (places_are : k.places ≡ places k.turn.code.instrs (length v.parents) - 1) (few : length v.calls < 4096)
    (few_open : open_calls v < MAX_OPEN) (enough : places k.turn.code.instrs (length v.parents) ≤ room v) where
  c : ℕ
  c = length v.calls

  abbrev new_past : List Event
  new_past = event.Admit (length v.calls) ∷ v.past

  abbrev then_ : CoreValue
  then_ = record v { calls = v.calls ++ call_value k ∷ []; past = new_past }

  abbrev does : Records → Outcome
  does = meaning k.turn.code.instrs v.parents k.args

  is_like : IsAlone v.parents does
  is_like = is_alone k.turn.code v.parents k.args valid accepted h.sound.tree

  call_then : (d : ℕ) → call_of then_ d ≡ (if length v.calls == d then call_value k else call_of v d)
  call_then d = get_or-last v.calls (call_value k) d no_call

  meaning_then : (d : ℕ) (b : Bool) → meaning (if b then call_value k else call_of v d).code.instrs v.parents (if b then call_value k else call_of v d).args ≡ (if b then does else (world_of v).meanings d)
  meaning_then d true = refl
  meaning_then d false = refl

  count_then : (d : ℕ) (b : Bool) → (if b then call_value k else call_of v d).count ≡ (if b then 0 else (call_of v d).count)
  count_then d true = steps
  count_then d false = refl

  world_then : world_of then_ ≡ after_admission (world_of v) does
  world_then = λ i. record {
    parents = v.parents;
    opening = v.opening;
    meanings = λ d. meanings_path d i;
    past = event.Admit (h.counted i) ∷ v.past;
    counts = λ d. counts_path d i;
  }
    where
      meanings_path : (d : ℕ) → meaning (code_of then_ d) v.parents (call_of then_ d).args ≡ (if admits v.past == d then does else (world_of v).meanings d)
      meanings_path d =
          ap (λ z. meaning z.code.instrs v.parents z.args) (call_then d) ∙ meaning_then d (length v.calls == d)
          ∙ ap (λ n. if n == d then does else (world_of v).meanings d) h.counted

      counts_path : (d : ℕ) → (call_of then_ d).count ≡ (if admits v.past == d then 0 else (call_of v d).count)
      counts_path d =
          ap (λ z. z.count) (call_then d) ∙ count_then d (length v.calls == d) ∙ ap (λ n. if n == d then 0 else (call_of v d).count) h.counted

  sound_then : IsSound (world_of then_)
  sound_then = subst IsSound (sym world_then) (sound_after_admission (world_of v) does h.sound is_like)

  reached_then : Reached v.parents v.opening (world_of then_)
  reached_then = subst (Reached v.parents v.opening) (sym world_then) (Admits (world_of v) does h.reached is_like)

  had_room_then : EachHadRoom then_ new_past
  had_room_then = room_admitted v (call_value k) h.counted h.sound.legal.in_turn (record { few = few; few_open = few_open; enough = enough }) h.had_room

  -- ---- the calls that were there

  code_before : (d : ℕ) → d < length v.calls → (call_of then_ d).code ≡ (call_of v d).code
  code_before d lt =
      let q = ne_eqb (length v.calls) d (λ e. omega arith) in
      ap (λ z. z.code) (call_then d) ∙ ap (λ b. (if b then call_value k else call_of v d).code) q

  owed_before : (d : ℕ) → d < length v.calls → owed_to then_ d ≡ owed_to v d
  owed_before d lt =
      let code' = code_before d lt in
      λ i. if is_done d v.past then 0 else places (code' i).instrs (length v.parents) - (length (part_of d v.past) + 1)

  before_kept : (d : ℕ) (kd : Kept) → d < length v.calls → IsKept v d kd → IsKept then_ d kd
  before_kept d kd lt keep = record {
    turn = keep.turn;
    shape = keep.shape;
    known = keep.known;
    code = keep.code;
    valid = keep.valid;
    accepted = keep.accepted;
    arity = keep.arity;
    done = keep.done;
    along = keep.along;
    part = keep.part;
    over = keep.over;
    reply = keep.reply;
    places = keep.places ∙ sym (owed_before d lt);
  }

  -- ---- the new call

  fresh : is_done (length v.calls) v.past ≡ false
  fresh = unadmitted_done v.past h.sound.legal.in_turn (length v.calls) (let e = h.counted in omega arith)

  nothing : part_of (length v.calls) v.past ≡ []
  nothing = unadmitted v.past h.sound.legal.in_turn (length v.calls) (let e = h.counted in omega arith)

  code_new : (call_of then_ (length v.calls)).code ≡ k.turn.code
  code_new =
      let q = eq-eqb (length v.calls) (length v.calls) refl in
      ap (λ z. z.code) (call_then (length v.calls)) ∙ ap (λ b. (if b then call_value k else call_of v (length v.calls)).code) q

  owed_new : owed_to then_ (length v.calls) ≡ k.places
  owed_new =
      (λ i. if fresh i then 0 else places (code_new i).instrs (length v.parents) - (length (nothing i) + 1))
      ∙ sym places_are

  goes_on : k.turn.call.is_over ≡ false
  goes_on =
      not_over k.turn.call.is_over (alone k.turn.code.instrs v.parents k.args v.opening) _ _ (is_like.ends v.opening h.sound.size) (left v.opening) refl

  new_kept : IsKept then_ (length v.calls) k
  new_kept = record {
    turn = turn;
    shape = shape;
    known = known;
    code = code;
    valid = valid;
    accepted = accepted;
    arity = arity;
    done = [];
    along = along_start k.turn.code.instrs v.parents k.args k.turn.call left steps reply;
    part = nothing;
    over = goes_on ∙ sym fresh;
    reply = none ∙ ap (λ b. if b then Some [] else None) (sym fresh);
    places = sym owed_new;
  }

  -- ---- the whole core

  pub admitted : (kept2 : List Kept) → kept2 ≡ kept ++ k ∷ [] → (open_count2 : ℕ) → open_count2 ≡ open_count + 1
      → (history2 : Stored) → history2 ≡ record { past = new_past; limit = v.limit; reserved = reserved + k.places }
      → IsCore (record v { calls = map call_value kept2; past = history2.past; limit = history2.limit }) now kept2 holders open_count2 history2.reserved
  admitted kept2 kept_is open_count2 open_is history2 history_is =
      let calls : map call_value kept2 ≡ then_.calls =
      ap (map call_value) kept_is ∙ map-append call_value kept (k ∷ []) ∙ ap (λ l. l ++ call_value k ∷ []) (sym h.calls) in
      let long : length then_.calls ≡ suc (length v.calls) = let e = length-append v.calls (call_value k ∷ []) in omega arith in
      let kept_long : length v.calls ≡ length kept = ap length h.calls ∙ length-map kept call_value in
      subst (λ z. IsCore (record v { calls = map call_value kept2; past = z.past; limit = z.limit }) now kept2 holders open_count2 z.reserved) (sym history_is)
      (subst (λ l. IsCore (record v { calls = l; past = new_past }) now kept2 holders open_count2 (reserved + k.places)) (sym calls)
      (record {
        sound = sound_then;
        reached = reached_then;
        had_room = had_room_then;
        counted = let e = h.counted in omega arith;
        few = omega arith;
        calls = sym calls;
        now_is = h.now_is;
        each_node = h.each_node;
        holds = h.holds;
        each = λ d kd there. elim (more_at kept k kd d (ap (λ l. slice_get l d) (sym kept_is) ∙ there)) [
          | inl last ↦
              let same : length v.calls ≡ d = kept_long ∙ sym last.0 in
              subst (λ z. IsKept then_ z kd) same (subst (IsKept then_ (length v.calls)) last.1 new_kept)
          | inr before ↦
              let lt = slice_get_within kept d kd before in
              before_kept d kd (omega arith) (h.each d kd before)
        ];
        open_are =
            let before = h.open_are in
            let one : open_in v.past (length v.calls) ≡ 1 = ap (λ b. if b then 0 else 1) fresh in
            let all : open_count2 ≡ total (open_in v.past) (length v.calls) + open_in v.past (length v.calls) = omega arith in
            all ∙ ap (total (open_in v.past)) (sym long);
        reserved_are =
            let before = h.reserved_are in
            let sums = total-same (owed_to then_) (owed_to v) (length v.calls) owed_before in
            let own = owed_new in
            let all : reserved + k.places ≡ total (owed_to then_) (length v.calls) + owed_to then_ (length v.calls) = omega arith in
            all ∙ ap (total (owed_to then_)) (sym long);
      }))

abbrev one_used : ℕ → Stored → Stored
one_used c history = record history { past = event.Admit c ∷ history.past; reserved = history.reserved - 1 }

-- the same for a call that was begun
module _ (v : CoreValue) (now : TreeValue) (calls : List Call) (slots : List OpenCall) (holders : List (Option ℕ)) (reserved capacity : ℕ) (w : IsWholeCore v now calls slots holders reserved capacity)
    (code : CodeValue) (parents : List ℕ) (number : ℕ) (given args : List ℤ) (turn : TurnValue) (needs : ℕ) (b : Begins code parents given args turn)
    (same_shape : parents ≡ v.parents) (same_code : code ≡ (procedure_at v number).code) (known : number < length v.procedures) (arity : length given ≡ (procedure_at v number).code.arity)
    (needs_is : needs ≡ places (procedure_at v number).code.instrs (length v.parents)) (few : length v.calls < 4096) (few_open : open_calls v < MAX_OPEN) (has_places : needs ≤ room v)
    (s : Call) (procedure : s.procedure ≡ number) (args_are : s.args.items ≡ args) (progress : s.progress ≡ Open (length slots))
    (o : OpenCall) (o_is : o ≡ record { call = length calls; places = needs - 1; turn = turn }) where
  abbrev new_call : Kept
  new_call = record { procedure = number; args = args; turn = turn; reply = None; places = needs - 1 }

  code_is : (procedure_at v number).code ≡ turn.code
  code_is = sym (b.code ∙ same_code)

  calls_long : length calls ≡ length v.calls
  calls_long = w.stored.long ∙ sym (length-map w.kept call_value) ∙ ap length (sym w.core.calls)

  begun_stored : AreStored v.procedures (calls ++ s ∷ []) (slots ++ o ∷ []) (w.kept ++ new_call ∷ [])
  begun_stored = stored_more v.procedures calls slots w.kept w.stored s new_call procedure args_are code_is progress refl o o_is

  begun_seen : map (seen_call v.procedures (slots ++ o ∷ [])) (calls ++ s ∷ []) ≡ map call_value (w.kept ++ new_call ∷ [])
  begun_seen = seen_are v.procedures (calls ++ s ∷ []) (slots ++ o ∷ []) (w.kept ++ new_call ∷ []) begun_stored

  -- the core then as callers see it
  pub seen_begun : (calls2 : List Call) → calls2 ≡ calls ++ s ∷ [] → (slots2 : List OpenCall) → slots2 ≡ slots ++ o ∷ []
      → map (seen_call v.procedures slots2) calls2 ≡ v.calls ++ record { procedure = number; code = (procedure_at v number).code; args = given; count = 0 } ∷ []
  seen_begun calls2 calls_are slots2 slots_are =
      let code_same = sym code_is in
      let args_same = b.args in
      let none_done = b.steps in
      ap₂ (λ os cs. map (seen_call v.procedures os) cs) slots_are calls_are ∙ begun_seen ∙ map-append call_value w.kept (new_call ∷ [])
      ∙ ap (λ l. l ++ call_value new_call ∷ []) (sym w.core.calls)
      ∙ (λ i. v.calls ++ record { procedure = number; code = code_same i; args = args_same i; count = none_done i } ∷ [])

  pub turns_begun : (calls2 : List Call) → calls2 ≡ calls ++ s ∷ [] → (slots2 : List OpenCall) → slots2 ≡ slots ++ o ∷ []
      → (d : ℕ) → d < length v.calls → get_or (map (seen_turn slots2) calls2) d None ≡ get_or (map (seen_turn slots) calls) d None
  turns_begun calls2 calls_are slots2 slots_are d lt =
      let long = calls_long in
      let sizes = w.stored.long in
      ap₂ (λ os cs. get_or (map (seen_turn os) cs) d None) slots_are calls_are
      ∙ ap (λ l. get_or l d None) (turns_are v.procedures (calls ++ s ∷ []) (slots ++ o ∷ []) (w.kept ++ new_call ∷ []) begun_stored)
      ∙ earlier_turn w.kept new_call d (omega arith)
      ∙ sym (ap (λ l. get_or l d None) (turns_are v.procedures calls slots w.kept w.stored))

  pub after_begun : (calls2 : List Call) → calls2 ≡ calls ++ s ∷ [] → (slots2 : List OpenCall) → slots2 ≡ slots ++ o ∷ []
      → (history2 : Stored) → history2.past ≡ event.Admit (length v.calls) ∷ v.past → history2.limit ≡ v.limit → (name : List ℕ) → number_of v.procedures name ≡ Some number
      → record v { calls = map (seen_call v.procedures slots2) calls2; past = history2.past; limit = history2.limit } ≡ core_after v name given
  after_begun calls2 calls_are slots2 slots_are history2 past_is limit_is name found =
      let seen = seen_begun calls2 calls_are slots2 slots_are in
      (λ i. record v { calls = seen i; past = past_is i; limit = limit_is i })
      ∙ ap (λ n. option_map_or (λ p. with_call_of v p given) n v) (sym found)

  pub admitted_begun : (calls2 : List Call) → calls2 ≡ calls ++ s ∷ [] → (slots2 : List OpenCall) → slots2 ≡ slots ++ o ∷ []
      → (history history2 : Stored) → history ≡ record { past = v.past; limit = v.limit; reserved = reserved + needs }
      → history2 ≡ record history { past = event.Admit (length v.calls) ∷ history.past; reserved = history.reserved - 1 }
      → (capacity2 : ℕ) → MAX_OPEN ≤ capacity2
      → IsWholeCore (record v { calls = map (seen_call v.procedures slots2) calls2; past = history2.past; limit = history2.limit }) now calls2 slots2 holders history2.reserved capacity2
  admitted_begun calls2 calls_are slots2 slots_are history history2 reserved_is appended capacity2 enough =
      let shape : turn.parents ≡ v.parents = b.shape ∙ same_shape in
      let fits : length args ≡ turn.code.arity = ap length b.args ∙ arity ∙ ap (λ z. z.arity) code_is in
      let places_are : needs - 1 ≡ places turn.code.instrs (length v.parents) - 1 = ap (λ n. n - 1) needs_is ∙ ap (λ z. places z.instrs (length v.parents) - 1) code_is in
      let fits_in : places turn.code.instrs (length v.parents) ≤ room v = subst (λ n. n ≤ room v) (needs_is ∙ ap (λ z. places z.instrs (length v.parents)) code_is) has_places in
      let some : 1 ≤ needs = let r = needs_is in omega arith in
      let more : reserved + needs - 1 ≡ reserved + (needs - 1) = omega arith in
      let history_is : history2 ≡ record { past = event.Admit (length v.calls) ∷ v.past; limit = v.limit; reserved = reserved + (needs - 1) } =
      appended ∙ ap (λ z. one_used (length v.calls) z) reserved_is ∙ (λ i. record { past = event.Admit (length v.calls) ∷ v.past; limit = v.limit; reserved = more i }) in
      let kept2 : List Kept = w.kept ++ new_call ∷ [] in
      let one_more : length slots2 ≡ length slots + 1 = ap length slots_are ∙ length-append slots (o ∷ []) in
      let core : IsCore (record v { calls = map call_value kept2; past = history2.past; limit = history2.limit }) now kept2 holders (length slots2) history2.reserved =
      admitted v now w.kept holders (length slots) reserved w.core new_call shape known code_is b.valid b.accepted fits
      (subst (λ ps. IsTurn turn.code.instrs ps turn.call) shape b.is_turn)
      (subst (λ ps. (t : Records) → run_left turn.code.instrs ps turn.call t ≡ alone turn.code.instrs ps args t) shape b.left)
      b.steps b.reply refl places_are few few_open fits_in kept2 refl (length slots2) one_more history2 history_is in
      record {
        kept = kept2;
        stored = stored_begun calls2 calls_are slots2 slots_are;
        core =
            subst (λ l. IsCore (record v { calls = l; past = history2.past; limit = history2.limit }) now kept2 holders (length slots2) history2.reserved)
            (sym (ap₂ (λ os cs. map (seen_call v.procedures os) cs) slots_are calls_are ∙ begun_seen)) core;
        few_open = let same = w.core.open_are in omega arith;
        room = enough;
      }
    where
      stored_begun : (calls2 : List Call) → calls2 ≡ calls ++ s ∷ [] → (slots2 : List OpenCall) → slots2 ≡ slots ++ o ∷ [] → AreStored v.procedures calls2 slots2 (w.kept ++ new_call ∷ [])
      stored_begun calls2 calls_are slots2 slots_are =
          subst (λ cs. AreStored v.procedures cs slots2 (w.kept ++ new_call ∷ [])) (sym calls_are)
          (subst (λ os. AreStored v.procedures (calls ++ s ∷ []) os (w.kept ++ new_call ∷ [])) (sym slots_are) begun_stored)
