-- A call's locks and frees so far, compared with what it does alone.
use Rattle.std.proofs.Common.{◌≡◌, ◌≢◌, ℕ, zero, suc, ◌<◌, ◌≤◌, ◌==◌, replicate, true, false, List, [], ◌∷◌, ◌++◌, length, get_or, Option, Some, None, refl, sym, ap, ◌∙◌, subst, inl, inr, arith}
use Rattle.std.specs.Prelude.{Box, slice_set, ℤ}
use Rattle.std.specs.declared.alloc.Global.{Global}
use Rattle.std.proofs.lemmas.Bool.{cases_Bool, cases_eq, cases_lt, both_ways, ne_eqb, eq-eqb}
use Rattle.std.proofs.lemmas.List.{get_or-set_same, get_or-set_other, length-set}
use Rattle.tl_tree.specs.Records.{Record, Records, record_at}
use Rattle.tl_tree_locking.specs.declared.action.Action.{Action}
use Rattle.tl_tree_locking.specs.declared.action.Action.TheVariants as did
use Rattle.tl_tree_locking.specs.declared.event.Event.{Event}
use Rattle.tl_tree_locking.specs.declared.event.Event.TheVariants.{Admit, Lock, Free, Done}
use Rattle.tl_tree_locking.specs.Actions.{locked, freed, found_in, locks_and_frees, EachPermitted}
use Rattle.tl_tree_locking.specs.Alone.{EndsOnce, all_taken}
use Rattle.tl_tree_locking.specs.History.{caller, part_of, is_done, admits, InTurn}
use Rattle.tl_tree_locking.proofs.PartLemmas.{part_of-other, part_of-lock, part_of-free, part_of-done}
use Rattle.tl_tree_locking.proofs.RecordsAlongOrder.{freed-locked}
use Rattle.tl_tree_locking.proofs.Records.{length-with_found, record_at-with_found}
use Rattle.tl_tree_locking.proofs.ReachedWorlds.{unadmitted_done}
use Rattle.tl_tree_locking.proofs.WorldSteps.{unadmitted}
use Rattle.tl_machine.specs.Call.{reply_so_far}
use Rattle.tl_machine.specs.Runs.{Run, actions, emits_of}
use Rattle.tl_machine.specs.Alone.{alone as run_alone}
use Rattle.tl_machine.specs.Turns.{TurnValue, left_of}
use Rattle.tl_machine.proofs.StartLemmas.{is_alone}
use Rattle.tl_procedures.specs.Names.{no_procedure}
use Rattle.tl_trail.specs.Trails.{TrailValue, IsTrail, IsCallOf, call_at, code_of, no_call, found_alone}
use Rattle.tl_trail.specs.Clean.{AreRight, AreDone, IsGenuine, RepliesSo}
use Rattle.tl_audit.specs.declared.replays.Difference.{Difference}
use Rattle.tl_audit.specs.declared.replays.Difference.TheVariants.{Actions, Reply}
use Rattle.tl_audit.specs.declared.replays.WrongCall.{WrongCall}
use Rattle.tl_audit.specs.declared.replays.Replays.{Replays}
use Rattle.tl_audit.specs.Genuine.{AreFit, IsOn}
use Rattle.tl_audit.specs.Findings.{AreSo, IsFirstFault}
use Rattle.tl_audit.specs.Replaying.{AllRight, Differs, IsAt, IsAtMost, IsFollowed, IsLed, IsOther, IsSettled, IsTaken, fault_of, found_run, found_tree}
use Rattle.tl_tree_locking.proofs.RulesLemmas.{locked_inside}
use Rattle.tl_audit.proofs.RightEvents.{right_legal}
use Rattle.tl_audit.proofs.ReplayLemmas.{freed-locks_and_frees, locks_and_frees-append, on_start}

-- ---- a tree with what was found fits what was done

abbrev HasAll : Records → (ℕ → Record) → List Action → Type 0
HasAll t base part = (x : ℕ) → locked part x ≡ true → (x < length t) × (found_in part x (base x) ≡ record_at t x)

unfreed_yet : (parents : List ℕ) (done : List Action) (x : ℕ) → EachPermitted parents done → locked done x ≡ false → freed done x ≡ false
unfreed_yet parents done x h fresh = elim (cases_Bool (freed done x)) [
  | inl gone ↦ absurd (both_ways (locked done x) fresh (freed-locked parents done x h gone))
  | inr kept ↦ kept
]

fit_from : (parents : List ℕ) (t : Records) (base : ℕ → Record) (part : List Action) → EachPermitted parents part → HasAll t base part → AreFit t (locks_and_frees part)
fit_from parents t base [] h has = tt
fit_from parents t base (did.Plain ∷ part) h has = fit_from parents t base part h.2 has
fit_from parents t base (did.Lock y r ∷ part) h has =
    let self = eq-eqb y y refl in
    let own = has y (rw self refl) in
    let is : r ≡ record_at t y = let e = own.1 in rw self at e in (
      own.0,
      is,
      freed-locks_and_frees part y ∙ unfreed_yet parents part y h.2 h.0.0,
      fit_from parents t base part h.2 (λ x l. elim (cases_eq y x) [
        | inl same ↦ absurd (both_ways (locked part y) h.0.0 (subst (λ k. locked part k ≡ true) (sym same) l))
        | inr other ↦ let q = ne_eqb y x other in let e = has x (rw q l) in let f = e.1 in (e.0, rw q at f)
      ]),
    )
fit_from parents t base (did.Read y f n ∷ part) h has = fit_from parents t base part h.2 has
fit_from parents t base (did.Write y f n ∷ part) h has = fit_from parents t base part h.2 has
fit_from parents t base (did.Free y r ∷ part) h has = fit_from parents t base part h.2 has
fit_from parents t base (did.Emit n ∷ part) h has = fit_from parents t base part h.2 has
fit_from parents t base (did.End ∷ part) h has = fit_from parents t base part h.2 has

-- ---- a call of a trail

pub ends_once : (t : TrailValue) → IsTrail t → (c : ℕ) → c < length t.calls → EndsOnce (actions (found_run t c))
ends_once t trail c known =
    let own : IsCallOf t.procedures (call_at t c) = trail.calls c no_call known in
    let alone = is_alone (get_or t.procedures (call_at t c).procedure no_procedure).code t.parents (call_at t c).args own.valid own.accepted trail.tree in
    alone.ends (found_tree t c) (length-with_found (part_of c t.past) t.opening ∙ trail.size)

pub found_size : (t : TrailValue) → IsTrail t → (c : ℕ) → length (found_tree t c) ≡ length t.parents
found_size t trail c = length-with_found (part_of c t.past) t.opening ∙ trail.size

-- if all events are right, the tree with the records that the call found fits what it did
pub found_fit : (t : TrailValue) → IsTrail t → (c : ℕ) → AllRight t → AreFit (found_tree t c) (locks_and_frees (part_of c t.past))
found_fit t trail c right =
    let part = part_of c t.past in
    let size = trail.size in
    let long = length-with_found part t.opening in
    let obeys = (right_legal t.parents t.opening t.past right).obeys c in
    fit_from t.parents (found_tree t c) (λ x. record_at t.opening x) part obeys
    (λ x l. let inside = locked_inside (length t.parents) t.past trail.nodes c x l in
    (omega arith, sym (record_at-with_found part t.opening x (omega arith))))

-- ---- what comes later

fit_before : (t : Records) (later before : List Action) → AreFit t (later ++ before) → AreFit t before
fit_before t [] before fit = fit
fit_before t (did.Plain ∷ later) before fit = fit_before t later before fit
fit_before t (did.Lock x r ∷ later) before fit = fit_before t later before fit.3
fit_before t (did.Read x f n ∷ later) before fit = fit_before t later before fit
fit_before t (did.Write x f n ∷ later) before fit = fit_before t later before fit
fit_before t (did.Free x r ∷ later) before fit = fit_before t later before fit
fit_before t (did.Emit n ∷ later) before fit = fit_before t later before fit
fit_before t (did.End ∷ later) before fit = fit_before t later before fit

part_of-append : (c : ℕ) (later past : List Event) → part_of c (later ++ past) ≡ part_of c later ++ part_of c past
part_of-append c [] past = refl
part_of-append c (Admit d ∷ later) past = part_of-append c later past
part_of-append c (Lock x d r ∷ later) past = elim (cases_Bool (d == c)) [ inl h ↦ rw h (ap (λ l. did.Lock x r ∷ l) (part_of-append c later past)) | inr h ↦ rw h (part_of-append c later past) ]
part_of-append c (Free x d r ∷ later) past = elim (cases_Bool (d == c)) [ inl h ↦ rw h (ap (λ l. did.Free x r ∷ l) (part_of-append c later past)) | inr h ↦ rw h (part_of-append c later past) ]
part_of-append c (Done d ∷ later) past = elim (cases_Bool (d == c)) [ inl h ↦ rw h (ap (λ l. did.End ∷ l) (part_of-append c later past)) | inr h ↦ rw h (part_of-append c later past) ]

-- the locks and frees of the whole trail are the later ones and those so far
pub all_and_later : (t : TrailValue) (c : ℕ) (later past : List Event) → t.past ≡ later ++ past
    → locks_and_frees (part_of c t.past) ≡ locks_and_frees (part_of c later) ++ locks_and_frees (part_of c past)
all_and_later t c later past split =
    ap (λ p. locks_and_frees (part_of c p)) split ∙ ap locks_and_frees (part_of-append c later past) ∙ locks_and_frees-append (part_of c later) (part_of c past)

pub fit_so_far : (t : TrailValue) → IsTrail t → (c : ℕ) (later past : List Event) → t.past ≡ later ++ past → AllRight t → AreFit (found_tree t c) (locks_and_frees (part_of c past))
fit_so_far t trail c later past split right =
    fit_before (found_tree t c) (locks_and_frees (part_of c later)) (locks_and_frees (part_of c past))
    (subst (AreFit (found_tree t c)) (all_and_later t c later past split) (found_fit t trail c right))

-- a call that is done does nothing more
done_does_nothing : (parents : List ℕ) (opening : Records) (c : ℕ) (later past : List Event) → AreRight parents opening (later ++ past) → is_done c past ≡ true
    → (part_of c (later ++ past) ≡ part_of c past) × (is_done c (later ++ past) ≡ true)
done_does_nothing parents opening c [] past right over = (refl, over)
done_does_nothing parents opening c (Admit d ∷ later) past right over = done_does_nothing parents opening c later past right.1 over
done_does_nothing parents opening c (Lock x d r ∷ later) past right over =
    let h = done_does_nothing parents opening c later past right.1 over in
    let ne : d ≢ c = λ same. both_ways (is_done c (later ++ past)) (subst (λ k. is_done k (later ++ past) ≡ false) same right.0.rules.may_happen.1) h.1 in
    (part_of-other (Lock x d r) c (later ++ past) ne ∙ h.0, h.1)
done_does_nothing parents opening c (Free x d r ∷ later) past right over =
    let h = done_does_nothing parents opening c later past right.1 over in
    let ne : d ≢ c = λ same. both_ways (is_done c (later ++ past)) (subst (λ k. is_done k (later ++ past) ≡ false) same right.0.rules.may_happen.1) h.1 in
    (part_of-other (Free x d r) c (later ++ past) ne ∙ h.0, h.1)
done_does_nothing parents opening c (Done d ∷ later) past right over =
    let h = done_does_nothing parents opening c later past right.1 over in
    let ne : d ≢ c = λ same. both_ways (is_done c (later ++ past)) (subst (λ k. is_done k (later ++ past) ≡ false) same right.0.rules.may_happen.1) h.1 in
    let q = ne_eqb d c ne in
    (part_of-other (Done d) c (later ++ past) ne ∙ h.0, rw q h.1)

pub all_at_end : (t : TrailValue) (c : ℕ) (later past : List Event) → t.past ≡ later ++ Done c ∷ past → AllRight t
    → locks_and_frees (part_of c t.past) ≡ locks_and_frees (part_of c past)
all_at_end t c later past split right =
    let self = eq-eqb c c refl in
    let over : is_done c (Done c ∷ past) ≡ true = rw self refl in
    let h = done_does_nothing t.parents t.opening c later (Done c ∷ past) (subst (AreRight t.parents t.opening) split right) over in
    ap (λ p. locks_and_frees (part_of c p)) split ∙ ap locks_and_frees (h.0 ∙ part_of-done c past)

-- ---- one event more

right_turn : (parents : List ℕ) (opening : Records) (past : List Event) → AreRight parents opening past → InTurn past
right_turn parents opening past right = (right_legal parents opening past right).in_turn

-- any other admitted call was admitted before the event
admitted_before : (parents : List ℕ) (opening : Records) (e : Event) (past : List Event) (d : ℕ) → AreRight parents opening (e ∷ past) → caller e ≢ d → d < admits (e ∷ past) → d < admits past
admitted_before parents opening (Admit c) past d right ne lt =
    let next : c ≡ admits past = right.0.rules.may_happen in
    let other : d ≢ admits past = λ same. ne (next ∙ sym same) in
    omega (arith, lt, other)
admitted_before parents opening (Lock x c r) past d right ne lt = lt
admitted_before parents opening (Free x c r) past d right ne lt = lt
admitted_before parents opening (Done c) past d right ne lt = lt

is_done-other : (e : Event) (past : List Event) (d : ℕ) → caller e ≢ d → is_done d (e ∷ past) ≡ true → is_done d past ≡ true
is_done-other (Admit c) past d ne h = h
is_done-other (Lock x c r) past d ne h = h
is_done-other (Free x c r) past d ne h = h
is_done-other (Done c) past d ne h = let q = ne_eqb c d ne in rw q at h

-- the entry of call c is `now`, and the others haven't changed
pub record IsPut (old new : List (Option (Box TurnValue Global))) (c : ℕ) (now : Option (Box TurnValue Global)) : Type 0 where
  pub size : length new ≡ length old
  pub here : get_or new c None ≡ now
  pub others : (d : ℕ) → d ≢ c → get_or new d None ≡ get_or old d None

module _ (t : TrailValue) (later past : List Event) (e : Event) (at : IsAt t later e past) (c : ℕ) (own : caller e ≡ c) (old new : Replays) (f : IsFollowed t past old)
    (now : Option (Box TurnValue Global)) (put : IsPut old.turns.items new.turns.items c now) where
  more : (led : (b : Box TurnValue Global) → now ≡ Some b → IsLed t c (e ∷ past) b.value) (over : is_done c (e ∷ past) ≡ true → now ≡ None)
      → (settled : now ≡ None → IsSettled t new.least c) → (kept : (d : ℕ) → IsAtMost old.least d → IsAtMost new.least d)
      → (least : (w : WrongCall) → new.least ≡ Some w → IsOther t w) → IsFollowed t (e ∷ past) new
  more led over settled kept least = record {
    trail = f.trail;
    size = put.size ∙ f.size;
    led = λ d b is. elim (cases_eq c d) [
      | inl same ↦ subst (λ k. IsLed t k (e ∷ past) b.value) same (led b (sym put.here ∙ ap (λ k. get_or new.turns.items k None) same ∙ is))
      | inr other ↦
          let before = f.led d b (sym (put.others d (λ w. other (sym w))) ∙ is) in
          let q = part_of-other e d past (λ w. other (sym own ∙ w)) in
          record { parents = before.parents; on = λ right. rw q (before.on right) }
    ];
    over = λ d h. elim (cases_eq c d) [
      | inl same ↦ ap (λ k. get_or new.turns.items k None) (sym same) ∙ put.here ∙ over (subst (λ k. is_done k (e ∷ past) ≡ true) (sym same) h)
      | inr other ↦ put.others d (λ w. other (sym w)) ∙ f.over d (is_done-other e past d (λ w. other (sym own ∙ w)) h)
    ];
    settled = λ d inside lt none. elim (cases_eq c d) [
      | inl same ↦ subst (λ k. IsSettled t new.least k) same (settled (sym put.here ∙ ap (λ k. get_or new.turns.items k None) same ∙ none))
      | inr other ↦ elim (f.settled d inside (admitted_before t.parents t.opening e past d at.right (λ w. other (sym own ∙ w)) lt) (sym (put.others d (λ w. other (sym w))) ∙ none)) [
        | inl so ↦ inl so
        | inr most ↦ inr (kept d most)
      ]
    ];
    least = least;
  }

  -- the call goes on
  pub goes_on : (b : Box TurnValue Global) → now ≡ Some b → new.least ≡ old.least → IsLed t c (e ∷ past) b.value → is_done c (e ∷ past) ≡ false → IsFollowed t (e ∷ past) new
  goes_on b is least led open' =
      more (λ v v_is. let same : Some b ≡ Some v = sym is ∙ v_is in let box : b ≡ v = cc in subst (λ z. IsLed t c (e ∷ past) z.value) box led)
      (λ over. absurd (both_ways (is_done c (e ∷ past)) open' over))
      (λ none. let no : Some b ≡ None = sym is ∙ none in absurd cc)
      (λ d most. subst (λ l. IsAtMost l d) (sym least) most)
      (λ w w_is. f.least w (sym least ∙ w_is))

  -- the call did what it does alone, or a wrong call is known that is at most c
  pub is_over : now ≡ None → new.least ≡ old.least → IsSettled t old.least c → IsFollowed t (e ∷ past) new
  is_over is least settled =
      more (λ v v_is. let no : None ≡ Some v = sym is ∙ v_is in absurd cc)
      (λ over. is)
      (λ none. subst (λ l. IsSettled t l c) (sym least) settled)
      (λ d most. subst (λ l. IsAtMost l d) (sym least) most)
      (λ w w_is. f.least w (sym least ∙ w_is))

  -- the call differs
  pub differs : now ≡ None → (w : WrongCall) → w.call ≡ c → IsTaken old.least new.least w → IsOther t w → IsFollowed t (e ∷ past) new
  differs is w who taken other =
      more (λ v v_is. let no : None ≡ Some v = sym is ∙ v_is in absurd cc)
      (λ over. is)
      (λ none. inr (subst (IsAtMost new.least) who taken.here))
      taken.kept
      (λ v v_is. elim (taken.one v v_is) [ inl before ↦ f.least v before | inr now' ↦ subst (IsOther t) (sym now') other ])

-- an admitted call without a turn is settled
pub settled_before : (t : TrailValue) (past : List Event) (r : Replays) (c : ℕ) → IsFollowed t past r → c < length t.calls → c < admits past → get_or r.turns.items c None ≡ None → IsSettled t r.least c
settled_before t past r c f inside lt none = f.settled c inside lt none

-- ---- a call at its start

pub led_start : (t : TrailValue) → IsTrail t → (c : ℕ) → c < length t.calls → (past : List Event) → AreRight t.parents t.opening (Admit c ∷ past) → (turn : TurnValue) → turn.parents ≡ t.parents
    → ((rs : Records) → left_of turn rs ≡ run_alone (code_of t.procedures (call_at t c)) t.parents (call_at t c).args rs) → reply_so_far turn.call ≡ [] → IsLed t c (Admit c ∷ past) turn
led_start t trail c known past right turn parents left reply =
    let next : c ≡ admits past = right.0.rules.may_happen in
    let nothing = unadmitted past (right_turn t.parents t.opening past right.1) c (omega (arith, next)) in
    let run = left (found_tree t c) in
    let start = on_start (found_tree t c) turn (found_size t trail c ∙ ap length (sym parents)) (subst (λ r. EndsOnce (actions r)) (sym run) (ends_once t trail c known)) reply in
    record { parents = parents; on = λ _. rw nothing (subst (λ r. IsOn (found_tree t c) r [] turn) run start) }

pub open_start : (t : TrailValue) (c : ℕ) (past : List Event) → AreRight t.parents t.opening (Admit c ∷ past) → is_done c (Admit c ∷ past) ≡ false
open_start t c past right =
    let next : c ≡ admits past = right.0.rules.may_happen in
    unadmitted_done past (right_turn t.parents t.opening past right.1) c (omega (arith, next))

-- ---- all calls done

-- if all events are right and each call is done, each call below the lowest wrong one is genuine and has its reply
pub so_far_least : (t : TrailValue) (r : Replays) → IsFollowed t t.past r → AllRight t → AreDone t → (c : ℕ) → c < length t.calls → ((w : WrongCall) → r.least ≡ Some w → c < w.call)
    → IsGenuine t c × RepliesSo t c
so_far_least t r f right done c inside less = elim (cases_lt c (admits t.past)) [
  | inl lt ↦ elim (f.settled c inside lt (f.over c (done c inside))) [
    | inl so ↦ so right
    | inr most ↦ let is = less most.0 most.1 in let below = most.2 in absurd (omega (arith, is, below))
  ]
  | inr not_so ↦ absurd (both_ways (is_done c t.past) (unadmitted_done t.past (right_turn t.parents t.opening t.past right) c (omega (arith, not_so))) (done c inside))
]

pub are_so : (t : TrailValue) (r : Replays) → IsFollowed t t.past r → AllRight t → AreDone t → (count : ℕ) → count ≤ length t.calls → ((w : WrongCall) → r.least ≡ Some w → count ≤ w.call) → AreSo t count
are_so t r f right done count within least = record {
  right = right;
  done = done;
  genuine = λ c lt. (so_far_least t r f right done c (omega (arith, lt, within)) (λ w is. let most = least w is in omega (arith, lt, most))).0;
  replies = λ c lt. (so_far_least t r f right done c (omega (arith, lt, within)) (λ w is. let most = least w is in omega (arith, lt, most))).1;
}

-- ---- one event of a call's own

pub put_one : (items : List (Option (Box TurnValue Global))) (c : ℕ) (now : Option (Box TurnValue Global)) → c < length items → IsPut items (slice_set items c now) c now
put_one items c now inside = record {
  size = length-set items c now;
  here = get_or-set_same items c now None inside;
  others = λ d other. get_or-set_other items c d now None other;
}

pub put_two : (items : List (Option (Box TurnValue Global))) (c : ℕ) (first now : Option (Box TurnValue Global)) → c < length items → IsPut items (slice_set (slice_set items c first) c now) c now
put_two items c first now inside =
    let size = length-set items c first in
    record {
      size = length-set (slice_set items c first) c now ∙ size;
      here = get_or-set_same (slice_set items c first) c now None (omega (arith, inside, size));
      others = λ d other. get_or-set_other (slice_set items c first) c d now None other ∙ get_or-set_other items c d first None other;
    }

module _ (t : TrailValue) (later past : List Event) (c x : ℕ) (r : Record) (old : TurnValue) (led : IsLed t c past old) where
  so_far_lock : locks_and_frees (part_of c (Lock x c r ∷ past)) ≡ did.Lock x r ∷ locks_and_frees (part_of c past)
  so_far_lock = ap locks_and_frees (part_of-lock c x r past)

  so_far_free : locks_and_frees (part_of c (Free x c r ∷ past)) ≡ did.Free x r ∷ locks_and_frees (part_of c past)
  so_far_free = ap locks_and_frees (part_of-free c x r past)

  pub led_lock : IsAt t later (Lock x c r) past → IsTrail t → (new : TurnValue) → new.parents ≡ old.parents
      → ((rs : Records) (whole : Run) (so_far : List Action) → AreFit rs (did.Lock x r ∷ so_far) → IsOn rs whole so_far old → IsOn rs whole (did.Lock x r ∷ so_far) new)
      → IsLed t c (Lock x c r ∷ past) new
  led_lock at trail new parents on = record {
    parents = parents ∙ led.parents;
    on = λ right.
        let fit = subst (AreFit (found_tree t c)) so_far_lock (fit_so_far t trail c later (Lock x c r ∷ past) at.split right) in
        subst (λ l. IsOn (found_tree t c) (found_run t c) l new) (sym so_far_lock) (on (found_tree t c) (found_run t c) (locks_and_frees (part_of c past)) fit (led.on right));
  }

  pub led_free : (new : TurnValue) → new.parents ≡ old.parents
      → ((rs : Records) (whole : Run) (so_far : List Action) → IsOn rs whole so_far old → IsOn rs whole (did.Free x r ∷ so_far) new) → IsLed t c (Free x c r ∷ past) new
  led_free new parents on = record {
    parents = parents ∙ led.parents;
    on = λ right. subst (λ l. IsOn (found_tree t c) (found_run t c) l new) (sym so_far_free) (on (found_tree t c) (found_run t c) (locks_and_frees (part_of c past)) (led.on right));
  }

  pub other_lock : IsAt t later (Lock x c r) past → c < length t.calls
      → ((rs : Records) (whole : Run) (more so_far : List Action) → IsOn rs whole so_far old → more ++ did.Lock x r ∷ so_far ≢ locks_and_frees (all_taken (actions whole)))
      → IsOther t (record { call = c; difference = Actions })
  other_lock at inside other = (
    inside,
    λ right genuine.
        other (found_tree t c) (found_run t c) (locks_and_frees (part_of c later)) (locks_and_frees (part_of c past)) (led.on right)
        (ap (λ l. locks_and_frees (part_of c later) ++ l) (sym so_far_lock) ∙ sym (all_and_later t c later (Lock x c r ∷ past) at.split) ∙ genuine),
  )

  pub other_free : IsAt t later (Free x c r) past → c < length t.calls
      → ((rs : Records) (whole : Run) (more so_far : List Action) → IsOn rs whole so_far old → more ++ did.Free x r ∷ so_far ≢ locks_and_frees (all_taken (actions whole)))
      → IsOther t (record { call = c; difference = Actions })
  other_free at inside other = (
    inside,
    λ right genuine.
        other (found_tree t c) (found_run t c) (locks_and_frees (part_of c later)) (locks_and_frees (part_of c past)) (led.on right)
        (ap (λ l. locks_and_frees (part_of c later) ++ l) (sym so_far_free) ∙ sym (all_and_later t c later (Free x c r ∷ past) at.split) ∙ genuine),
  )

module _ (t : TrailValue) (later past : List Event) (c : ℕ) (old : TurnValue) (led : IsLed t c past old) (at : IsAt t later (Done c) past) (inside : c < length t.calls) where
  pub other_end : ((rs : Records) (whole : Run) (so_far : List Action) → IsOn rs whole so_far old → so_far ≢ locks_and_frees (all_taken (actions whole)))
      → IsOther t (record { call = c; difference = Actions })
  other_end other = (
    inside,
    λ right genuine.
        other (found_tree t c) (found_run t c) (locks_and_frees (part_of c past)) (led.on right) (sym (all_at_end t c later past at.split right) ∙ genuine),
  )

  module _ (reply : List ℤ)
      (so : (rs : Records) (whole : Run) (so_far : List Action) → IsOn rs whole so_far old → (so_far ≡ locks_and_frees (all_taken (actions whole))) × (reply ≡ emits_of (actions whole))) where
    ended : AllRight t → IsGenuine t c × (reply ≡ (found_alone t c).reply)
    ended right =
        let both = so (found_tree t c) (found_run t c) (locks_and_frees (part_of c past)) (led.on right) in
        (all_at_end t c later past at.split right ∙ both.0, both.1)

    pub settled_end : (least : Option WrongCall) → (call_at t c).reply ≡ Some reply → IsSettled t least c
    settled_end least told = inl (λ right. let e = ended right in (e.0, told ∙ ap Some e.1))

    pub other_reply : (call_at t c).reply ≢ Some reply → IsOther t (record { call = c; difference = Reply })
    other_reply told = (inside, λ right. let e = ended right in (e.0, λ replies. told (replies ∙ ap Some (sym e.1))))

-- no call has a turn
pub no_turn : (n d : ℕ) → get_or {A = Option (Box TurnValue Global)} (replicate n None) d None ≡ None
no_turn zero d = refl
no_turn (suc n) zero = refl
no_turn (suc n) (suc d) = no_turn n d

pub least_fault : (t : TrailValue) (d : Difference) (c : ℕ) → AreSo t c → c < length t.calls → Differs t c d → IsFirstFault t (fault_of d c)
least_fault t Actions c so inside differs' = (so, inside, differs')
least_fault t Reply c so inside differs' = (so, inside, differs'.0, differs'.1)
