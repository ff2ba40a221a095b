-- How a core stores its calls, and that they stay stored.
use Rattle.std.proofs.Common.{◌≡◌, ◌≢◌, ℕ, zero, suc, ◌+◌, ◌-◌, ◌<◌, ◌≤◌, List, [], ◌∷◌, ◌++◌, length, map, refl, sym, ap, ◌∙◌, subst, inl, inr, arith, Option, Some, None, option_map, slice_get, get_or, set, take, ℤ, ◌⊎◌}
use Rattle.std.specs.List.{swap_remove}
use Rattle.std.proofs.lemmas.Bool.{cases_eq}
use Rattle.std.proofs.lemmas.List.{length-set, length-append}
use Rattle.std.proofs.lemmas.Option.{slice_get-map, slice_get_within, get_or_from_slice_get, slice_get-get_or}
use Rattle.tl_machine.specs.Turns.{TurnValue}
use Rattle.tl_procedures.specs.Names.{Named, no_procedure}
use Rattle.tl_core.specs.declared.call.Call.{Call}
use Rattle.tl_core.specs.declared.call.OpenCall.{OpenCall}
use Rattle.tl_core.specs.declared.call.Progress.{Progress}
use Rattle.tl_core.specs.declared.call.Progress.TheVariants.{Open, Done}
use Rattle.tl_core.specs.Stored.{Kept, slot_of, reply_in, turn_in, steps_of, count_of, seen_call, seen_turn, open_call, IsStored, AreStored}
use Rattle.tl_core.specs.Kept.{call_value}

-- ---- lists

pub some_at : {X : Type 0} → (xs : List X) (i : ℕ) → i < length xs → (x : X) × (slice_get xs i ≡ Some x)
some_at [] i less = absurd (omega arith)
some_at (x ∷ xs) zero less = (x, refl)
some_at (x ∷ xs) (suc i) less = some_at xs i (omega arith)

pub same_item : {X : Type 0} → {x y : X} → Some x ≡ Some y → x ≡ y
same_item e = cc

pub slice_get-set_same : {X : Type 0} → (xs : List X) (i : ℕ) (y : X) → i < length xs → slice_get (set xs i y) i ≡ Some y
slice_get-set_same [] i y lt = absurd (omega arith)
slice_get-set_same (x ∷ xs) zero y lt = refl
slice_get-set_same (x ∷ xs) (suc i) y lt = slice_get-set_same xs i y (omega arith)

pub slice_get-set_other : {X : Type 0} → (xs : List X) (i j : ℕ) (y : X) → i ≢ j → slice_get (set xs i y) j ≡ slice_get xs j
slice_get-set_other [] i j y ne = refl
slice_get-set_other (x ∷ xs) zero zero y ne = absurd (ne refl)
slice_get-set_other (x ∷ xs) zero (suc j) y ne = refl
slice_get-set_other (x ∷ xs) (suc i) zero y ne = refl
slice_get-set_other (x ∷ xs) (suc i) (suc j) y ne = slice_get-set_other xs i j y (λ e. ne (ap suc e))

-- an element of a list of which one was changed
pub set_at : {X : Type 0} → (xs : List X) (i : ℕ) (y : X) (j : ℕ) (x : X) → i < length xs → slice_get (set xs i y) j ≡ Some x → ((i ≡ j) × (y ≡ x)) ⊎ ((i ≢ j) × (slice_get xs j ≡ Some x))
set_at xs i y j x lt at = elim (cases_eq i j) [
  | inl same ↦ inl (same, same_item (sym (slice_get-set_same xs i y lt) ∙ ap (λ n. slice_get (set xs i y) n) same ∙ at))
  | inr other ↦ inr (other, sym (slice_get-set_other xs i j y other) ∙ at)
]

-- an element of a list with one more
pub more_at : {X : Type 0} → (xs : List X) (x y : X) (d : ℕ) → slice_get (xs ++ x ∷ []) d ≡ Some y → ((d ≡ length xs) × (x ≡ y)) ⊎ (slice_get xs d ≡ Some y)
more_at [] x y zero h = inl (refl, same_item h)
more_at [] x y (suc d) h = absurd cc
more_at (z ∷ xs) x y zero h = inr h
more_at (z ∷ xs) x y (suc d) h = elim (more_at xs x y d h) [
  | inl last ↦ inl (ap suc last.0, last.1)
  | inr before ↦ inr before
]

pub last_at : {X : Type 0} → (xs : List X) (x : X) → slice_get (xs ++ x ∷ []) (length xs) ≡ Some x
last_at [] x = refl
last_at (z ∷ xs) x = last_at xs x

pub before_at : {X : Type 0} → (xs : List X) (x y : X) (d : ℕ) → slice_get xs d ≡ Some y → slice_get (xs ++ x ∷ []) d ≡ Some y
before_at [] x y d h = absurd cc
before_at (z ∷ xs) x y zero h = h
before_at (z ∷ xs) x y (suc d) h = before_at xs x y d h

same_maps : {X : Type 0} → {Y : Type 0} → {Z : Type 0} → (f : X → Z) (g : Y → Z) (xs : List X) (ys : List Y) → length xs ≡ length ys
    → ((i : ℕ) (x : X) (y : Y) → slice_get xs i ≡ Some x → slice_get ys i ≡ Some y → f x ≡ g y) → map f xs ≡ map g ys
same_maps f g [] [] long each = refl
same_maps f g [] (y ∷ ys) long each = absurd (omega arith)
same_maps f g (x ∷ xs) [] long each = absurd (omega arith)
same_maps f g (x ∷ xs) (y ∷ ys) long each =
    let first : f x ≡ g y = each zero x y refl refl in
    let rest = same_maps f g xs ys (omega arith) (λ i a b at at2. each (suc i) a b at at2) in
    λ i. first i ∷ rest i

-- ---- what callers see

pub count_is : (slots : List OpenCall) (p : Progress) (k : Kept) (c : ℕ) → ((j : ℕ) → slot_of p ≡ Some j → slice_get slots j ≡ Some (open_call c k))
    → ((reply : List ℤ) (n : ℕ) → p ≡ Done reply n → n ≡ k.turn.call.steps) → count_of slots p ≡ k.turn.call.steps
count_is slots (Open j) k c slot steps =
    get_or_from_slice_get (map steps_of slots) j k.turn.call.steps 0 (slice_get-map steps_of slots j ∙ ap (λ o. option_map steps_of o) (slot j refl))
count_is slots (Done reply n) k c slot steps = steps reply n refl

seen_is : (procedures : List Named) (slots : List OpenCall) (c : ℕ) (k : Kept) (s : Call) → IsStored procedures slots c k s → seen_call procedures slots s ≡ call_value k
seen_is procedures slots c k s h =
    let code : (get_or procedures s.procedure no_procedure).code ≡ k.turn.code = ap (λ p. (get_or procedures p no_procedure).code) h.procedure ∙ h.code in
    let count = count_is slots s.progress k c h.slot h.steps in
    λ i. record { procedure = h.procedure i; code = code i; args = h.args i; count = count i }

pub seen_are : (procedures : List Named) (calls : List Call) (slots : List OpenCall) (kept : List Kept) → AreStored procedures calls slots kept
    → map (seen_call procedures slots) calls ≡ map call_value kept
seen_are procedures calls slots kept h =
    same_maps (seen_call procedures slots) call_value calls kept h.long (λ c s k at at2. seen_is procedures slots c k s (h.each c k s at2 at))

-- the turn of a call that has no reply yet
abbrev pub unless_done : Option (List ℤ) → TurnValue → Option TurnValue
unless_done None turn = Some turn
unless_done (Some reply) turn = None

abbrev pub open_turn : Kept → Option TurnValue
open_turn k = unless_done k.reply k.turn

turn_is : (slots : List OpenCall) (p : Progress) (k : Kept) (c : ℕ) → reply_in p ≡ k.reply → ((j : ℕ) → slot_of p ≡ Some j → slice_get slots j ≡ Some (open_call c k))
    → turn_in slots p ≡ open_turn k
turn_is slots (Open j) k c reply slot = ap (λ o. option_map (λ z. z.turn) o) (slot j refl) ∙ ap (λ r. unless_done r k.turn) reply
turn_is slots (Done out n) k c reply slot = ap (λ r. unless_done r k.turn) reply

pub turns_are : (procedures : List Named) (calls : List Call) (slots : List OpenCall) (kept : List Kept) → AreStored procedures calls slots kept
    → map (seen_turn slots) calls ≡ map open_turn kept
turns_are procedures calls slots kept h =
    same_maps (seen_turn slots) open_turn calls kept h.long (λ c s k at at2. let its = h.each c k s at2 at in turn_is slots s.progress k c its.reply its.slot)

-- if another call is replaced, the turns of the other calls are the same
pub other_turn : (kept : List Kept) (c : ℕ) (k : Kept) (d : ℕ) → d ≢ c → get_or (map open_turn (set kept c k)) d None ≡ get_or (map open_turn kept) d None
other_turn [] c k d ne = refl
other_turn (x ∷ kept) zero k zero ne = absurd (ne refl)
other_turn (x ∷ kept) zero k (suc d) ne = refl
other_turn (x ∷ kept) (suc c) k zero ne = refl
other_turn (x ∷ kept) (suc c) k (suc d) ne = other_turn kept c k d (λ e. ne (ap suc e))

pub earlier_turn : (kept : List Kept) (k : Kept) (d : ℕ) → d < length kept → get_or (map open_turn (kept ++ k ∷ [])) d None ≡ get_or (map open_turn kept) d None
earlier_turn [] k d lt = absurd (omega arith)
earlier_turn (x ∷ kept) k zero lt = refl
earlier_turn (x ∷ kept) k (suc d) lt = earlier_turn kept k d (omega arith)

-- the call that is stored at this position
pub kept_of : (procedures : List Named) (calls : List Call) (slots : List OpenCall) (kept : List Kept) → AreStored procedures calls slots kept
    → (c : ℕ) (s : Call) → slice_get calls c ≡ Some s → (k : Kept) × (slice_get kept c ≡ Some k)
kept_of procedures calls slots kept h c s at =
    let lt = slice_get_within calls c s at in
    let long = h.long in
    some_at kept c (omega arith)

-- how a call with this number is stored
pub stored_of : (procedures : List Named) (calls : List Call) (slots : List OpenCall) (kept : List Kept) → AreStored procedures calls slots kept
    → (c : ℕ) (k : Kept) → slice_get kept c ≡ Some k → (s : Call) × (slice_get calls c ≡ Some s) × IsStored procedures slots c k s
stored_of procedures calls slots kept h c k at =
    let lt = slice_get_within kept c k at in
    let long = h.long in
    let s = some_at calls c (omega arith) in
    (s.0, s.1, h.each c k s.0 at s.1)

-- ---- another turn in a slot

module _ (procedures : List Named) (calls : List Call) (slots : List OpenCall) (kept : List Kept) (h : AreStored procedures calls slots kept)
    (c : ℕ) (k : Kept) (s : Call) (at : slice_get kept c ≡ Some k) (there : slice_get calls c ≡ Some s) (j : ℕ) (is_open : slot_of s.progress ≡ Some j) where
  in_slot : slice_get slots j ≡ Some (open_call c k)
  in_slot = (h.each c k s at there).slot j is_open

  in_slots : j < length slots
  in_slots = slice_get_within slots j (open_call c k) in_slot

  -- another call has another slot
  other_slot : (d : ℕ) (kd : Kept) (i : ℕ) → c ≢ d → slice_get slots i ≡ Some (open_call d kd) → j ≢ i
  other_slot d kd i other its same =
      let both : open_call c k ≡ open_call d kd = same_item (sym in_slot ∙ ap (λ n. slice_get slots n) same ∙ its) in
      other (ap (λ o. o.call) both)

  open_reply : (p : Progress) → slot_of p ≡ Some j → reply_in p ≡ None
  open_reply (Open i) e = refl
  open_reply (Done reply n) e = absurd cc

  pub no_reply : k.reply ≡ None
  no_reply = sym (h.each c k s at there).reply ∙ open_reply s.progress is_open

  not_done : (p : Progress) (reply : List ℤ) (n : ℕ) → slot_of p ≡ Some j → p ≡ Done reply n → ⊥
  not_done p reply n e same = let none : slot_of p ≡ None = ap slot_of same in absurd cc

  pub stored_turn : (turn2 : TurnValue) (places2 : ℕ) → turn2.code ≡ k.turn.code
      → AreStored procedures calls (set slots j (record { call = c; places = places2; turn = turn2 })) (set kept c (record k { turn = turn2; places = places2 }))
  stored_turn turn2 places2 same_code =
      let k2 : Kept = record k { turn = turn2; places = places2 } in
      let o2 : OpenCall = open_call c k2 in
      let was = h.each c k s at there in
      record {
        long = h.long ∙ sym (length-set kept c k2);
        each = λ d kd sd at_d there_d. elim (set_at kept c k2 d kd (slice_get_within kept c k at) at_d) [
          | inl (same, is) ↦
              let stored : s ≡ sd = same_item (sym there ∙ ap (λ n. slice_get calls n) same ∙ there_d) in
              let here : IsStored procedures (set slots j o2) c k2 s = record {
                procedure = was.procedure;
                args = was.args;
                code = was.code ∙ sym same_code;
                reply = was.reply;
                slot = λ i e. let one : j ≡ i = same_item (sym is_open ∙ e) in subst (λ n. slice_get (set slots j o2) n ≡ Some o2) one (slice_get-set_same slots j o2 in_slots);
                steps = λ reply n e. absurd (not_done s.progress reply n is_open e);
              } in
              subst (λ n. IsStored procedures (set slots j o2) n kd sd) same (subst (λ z. IsStored procedures (set slots j o2) c z sd) is (subst (IsStored procedures (set slots j o2) c k2) stored here))
          | inr (other, before) ↦
              let its = h.each d kd sd before there_d in
              record {
                procedure = its.procedure;
                args = its.args;
                code = its.code;
                reply = its.reply;
                slot = λ i e. slice_get-set_other slots j i o2 (other_slot d kd i other (its.slot i e)) ∙ its.slot i e;
                steps = its.steps;
              }
        ];
        each_slot = λ i o at_i. elim (set_at slots j o2 i o in_slots at_i) [
          | inl (same, is) ↦ subst (λ z. (x : Call) × (slice_get calls z.call ≡ Some x) × (slot_of x.progress ≡ Some i)) is (s, there, is_open ∙ ap Some same)
          | inr (other, before) ↦ h.each_slot i o before
        ];
      }

-- ---- a call more

pub stored_more : (procedures : List Named) (calls : List Call) (slots : List OpenCall) (kept : List Kept) → AreStored procedures calls slots kept
    → (s : Call) (k : Kept) → s.procedure ≡ k.procedure → s.args.items ≡ k.args → (get_or procedures k.procedure no_procedure).code ≡ k.turn.code
    → s.progress ≡ Open (length slots) → k.reply ≡ None → (o : OpenCall) → o ≡ open_call (length calls) k
    → AreStored procedures (calls ++ s ∷ []) (slots ++ o ∷ []) (kept ++ k ∷ [])
stored_more procedures calls slots kept h s k procedure args code progress none o o_is =
    let sizes = h.long in
    record {
      long = let a = length-append calls (s ∷ []) in let b = length-append kept (k ∷ []) in omega arith;
      each = λ d kd sd at_d there_d. elim (more_at kept k kd d at_d) [
        | inl (last, is) ↦
            let same : d ≡ length calls = last ∙ sym sizes in
            let stored : s ≡ sd = same_item (sym (last_at calls s) ∙ ap (λ n. slice_get (calls ++ s ∷ []) n) (sym same) ∙ there_d) in
            let here : IsStored procedures (slots ++ o ∷ []) (length calls) k s = record {
              procedure = procedure;
              args = args;
              code = code;
              reply = ap reply_in progress ∙ sym none;
              slot = λ i e.
                  let one : length slots ≡ i = same_item (sym (ap slot_of progress) ∙ e) in
                  ap (λ n. slice_get (slots ++ o ∷ []) n) (sym one) ∙ last_at slots o ∙ ap Some o_is;
              steps = λ reply n e. absurd (open_done progress e);
            } in
            subst (λ n. IsStored procedures (slots ++ o ∷ []) n kd sd) (sym same)
            (subst (λ z. IsStored procedures (slots ++ o ∷ []) (length calls) z sd) is (subst (IsStored procedures (slots ++ o ∷ []) (length calls) k) stored here))
        | inr before ↦
            let lt = slice_get_within kept d kd before in
            let its = h.each d kd sd before (earlier calls s sd d (omega arith) there_d) in
            record {
              procedure = its.procedure;
              args = its.args;
              code = its.code;
              reply = its.reply;
              slot = λ i e. before_at slots o (open_call d kd) i (its.slot i e);
              steps = its.steps;
            }
      ];
      each_slot = λ i x at_i. elim (more_at slots o x i at_i) [
        | inl (last, is) ↦
            subst (λ z. (y : Call) × (slice_get (calls ++ s ∷ []) z.call ≡ Some y) × (slot_of y.progress ≡ Some i)) (sym o_is ∙ is)
            (s, last_at calls s, ap slot_of progress ∙ ap Some (sym last))
        | inr before ↦
            let its = h.each_slot i x before in
            (its.0, before_at calls s its.0 x.call its.1, its.2)
      ];
    }
  where
    open_done : {p : Progress} → {j : ℕ} → p ≡ Open j → {reply : List ℤ} → {n : ℕ} → p ≡ Done reply n → ⊥
    open_done e f = absurd cc

    earlier : {X : Type 0} → (xs : List X) (x y : X) (d : ℕ) → d < length xs → slice_get (xs ++ x ∷ []) d ≡ Some y → slice_get xs d ≡ Some y
    earlier xs x y d lt at = elim (more_at xs x y d at) [
      | inl (last, is) ↦ absurd (omega arith)
      | inr before ↦ before
    ]

-- ---- a slot less

take_at : {X : Type 0} → (xs : List X) (n i : ℕ) → i < n → slice_get (take n xs) i ≡ slice_get xs i
take_at xs zero i lt = absurd (omega arith)
take_at [] (suc n) i lt = refl
take_at (x ∷ xs) (suc n) zero lt = refl
take_at (x ∷ xs) (suc n) (suc i) lt = take_at xs n i (omega arith)

take_long : {X : Type 0} → (xs : List X) (n : ℕ) → n ≤ length xs → length (take n xs) ≡ n
take_long xs zero le = refl
take_long [] (suc n) le = absurd (omega arith)
take_long (x ∷ xs) (suc n) le = let e = take_long xs n (omega arith) in omega arith

-- The element at j was removed, and the last one was moved to its place, if it wasn't the last itself.
pub record IsWithout {X : Type 0} (xs : List X) (j : ℕ) (ys : List X) : Type 0 where
  pub long : length ys + 1 ≡ length xs
  pub other : (i : ℕ) → i < length ys → j ≢ i → slice_get ys i ≡ slice_get xs i
  pub same : j < length ys → slice_get ys j ≡ slice_get xs (length ys)

-- an element is changed and then removed
pub removed : {X : Type 0} → (xs : List X) (j : ℕ) (x d : X) → j < length xs → IsWithout xs j (swap_remove (set xs j x) j d)
removed xs j x d lt =
    let xs1 : List _ = set xs j x in
    let y = get_or xs1 (length xs1 - 1) d in
    let long1 : length xs1 ≡ length xs = length-set xs j x in
    let long2 : length (set xs1 j y) ≡ length xs1 = length-set xs1 j y in
    let left : length (swap_remove xs1 j d) ≡ length xs1 - 1 = take_long (set xs1 j y) (length xs1 - 1) (omega arith) in
    record {
      long = omega arith;
      other = λ i less ne. take_at (set xs1 j y) (length xs1 - 1) i (omega arith) ∙ slice_get-set_other xs1 j i y ne ∙ slice_get-set_other xs j i x ne;
      same = λ less.
          let last : length xs1 - 1 ≡ length (swap_remove xs1 j d) = sym left in
          take_at (set xs1 j y) (length xs1 - 1) j (omega arith) ∙ slice_get-set_same xs1 j y (omega arith)
          ∙ sym (slice_get-get_or xs1 (length xs1 - 1) d (omega arith)) ∙ ap (λ n. slice_get xs1 n) last
          ∙ slice_get-set_other xs j (length (swap_remove xs1 j d)) x (λ (e : j ≡ length (swap_remove xs1 j d)). omega arith);
    }

module _ (procedures : List Named) (calls : List Call) (slots : List OpenCall) (kept : List Kept) (h : AreStored procedures calls slots kept)
    (c : ℕ) (k : Kept) (s : Call) (at : slice_get kept c ≡ Some k) (there : slice_get calls c ≡ Some s) (j : ℕ) (is_open : slot_of s.progress ≡ Some j)
    (turn2 : TurnValue) (reply2 : List ℤ) (steps2 : ℕ) (same_code : turn2.code ≡ k.turn.code) (counted : steps2 ≡ turn2.call.steps) (slots_left : List OpenCall) (r : IsWithout slots j slots_left) where
  abbrev pub call_done : Call
  call_done = record s { progress = Done reply2 steps2 }

  abbrev pub kept_done : Kept
  kept_done = record k { turn = turn2; reply = Some reply2; places = 0 }

  taken_slot : slice_get slots j ≡ Some (open_call c k)
  taken_slot = in_slot procedures calls slots kept h c k s at there j is_open

  slot_inside : j < length slots
  slot_inside = slice_get_within slots j (open_call c k) taken_slot

  call_inside : c < length calls
  call_inside = slice_get_within calls c s there

  kept_inside : c < length kept
  kept_inside = slice_get_within kept c k at

  done_stored : IsStored procedures slots_left c kept_done call_done
  done_stored =
      let was = h.each c k s at there in
      record {
        procedure = was.procedure;
        args = was.args;
        code = was.code ∙ sym same_code;
        reply = refl;
        slot = λ i e. absurd cc;
        steps = λ reply n e. let one : steps2 ≡ n = cc in sym one ∙ counted;
      }

  -- the slot of another call
  another_slot : (d : ℕ) (kd : Kept) (i : ℕ) → c ≢ d → slice_get slots i ≡ Some (open_call d kd) → j ≢ i
  another_slot d kd i other its = other_slot procedures calls slots kept h c k s at there j is_open d kd i other its

  -- the call of another slot
  another_call : (i m : ℕ) (x : Call) → j ≢ i → slice_get calls m ≡ Some x → slot_of x.progress ≡ Some i → c ≢ m
  another_call i m x other stored its same =
      let one : s ≡ x = same_item (sym there ∙ ap (λ n. slice_get calls n) same ∙ stored) in
      other (same_item (sym is_open ∙ ap (λ z. slot_of z.progress) one ∙ its))

  -- the last slot was the call's
  pub stored_last : length slots ≡ j + 1 → AreStored procedures (set calls c call_done) slots_left (set kept c kept_done)
  stored_last last = record {
    long = length-set calls c call_done ∙ h.long ∙ sym (length-set kept c kept_done);
    each = λ d kd sd at_d there_d. elim (set_at kept c kept_done d kd kept_inside at_d) [
      | inl (same, is) ↦
          let stored : call_done ≡ sd = same_item (sym (slice_get-set_same calls c call_done call_inside) ∙ ap (λ n. slice_get (set calls c call_done) n) same ∙ there_d) in
          subst (λ n. IsStored procedures slots_left n kd sd) same
          (subst (λ z. IsStored procedures slots_left c z sd) is (subst (IsStored procedures slots_left c kept_done) stored done_stored))
      | inr (other, before) ↦
          let its = h.each d kd sd before (sym (slice_get-set_other calls c d call_done other) ∙ there_d) in
          record {
            procedure = its.procedure;
            args = its.args;
            code = its.code;
            reply = its.reply;
            slot = λ i e.
                let ne = another_slot d kd i other (its.slot i e) in
                let lt = slice_get_within slots i (open_call d kd) (its.slot i e) in
                let less : i < length slots_left = let gone = r.long in below j i (length slots) (length slots_left) lt ne last gone in
                r.other i less ne ∙ its.slot i e;
            steps = its.steps;
          }
    ];
    each_slot = λ i o at_i.
        let lt = slice_get_within slots_left i o at_i in
        let gone = r.long in
        let ne : j ≢ i = λ (e : j ≡ i). omega arith in
        let its = h.each_slot i o (sym (r.other i lt ne) ∙ at_i) in
        let other = another_call i o.call its.0 ne its.1 its.2 in
        (its.0, slice_get-set_other calls c o.call call_done other ∙ its.1, its.2);
  }
    where
      below : (j i n m : ℕ) → i < n → j ≢ i → n ≡ j + 1 → m + 1 ≡ n → i < m
      below j i n m lt ne e gone = omega (arith, ne)

  -- the last slot was another call's, and was moved to this place
  pub stored_moved : (om : OpenCall) → slice_get slots_left j ≡ Some om → (x : Call) → slice_get (set calls c call_done) om.call ≡ Some x
      → AreStored procedures (set (set calls c call_done) om.call (record x { progress = Open j })) slots_left (set kept c kept_done)
  stored_moved om at_om x at_x =
      let lt = slice_get_within slots_left j om at_om in
      let ne : j ≢ length slots_left = λ (e : j ≡ length slots_left). omega arith in
      let last : slice_get slots (length slots_left) ≡ Some om = sym (r.same lt) ∙ at_om in
      let its = h.each_slot (length slots_left) om last in
      let other : c ≢ om.call = another_call (length slots_left) om.call its.0 ne its.1 its.2 in
      let same_x : x ≡ its.0 = same_item (sym at_x ∙ slice_get-set_other calls c om.call call_done other ∙ its.1) in
      let calls1 : List Call = set calls c call_done in
      let x2 : Call = record x { progress = Open j } in
      let inside : om.call < length calls1 = slice_get_within calls1 om.call x at_x in
      record {
        long = length-set calls1 om.call x2 ∙ length-set calls c call_done ∙ h.long ∙ sym (length-set kept c kept_done);
        each = λ d kd sd at_d there_d. elim (set_at kept c kept_done d kd kept_inside at_d) [
          | inl (same, is) ↦
              let stored : call_done ≡ sd =
              same_item (sym (slice_get-set_same calls c call_done call_inside) ∙ sym (slice_get-set_other calls1 om.call c x2 (λ e. other (sym e)))
              ∙ ap (λ n. slice_get (set calls1 om.call x2) n) same ∙ there_d) in
              subst (λ n. IsStored procedures slots_left n kd sd) same
              (subst (λ z. IsStored procedures slots_left c z sd) is (subst (IsStored procedures slots_left c kept_done) stored done_stored))
          | inr (not_c, before) ↦ elim (set_at calls1 om.call x2 d sd inside there_d) [
            | inl (same, is) ↦
                let its_d = h.each d kd its.0 before (ap (λ n. slice_get calls n) (sym same) ∙ its.1) in
                let here : open_call d kd ≡ om = same_item (sym (its_d.slot (length slots_left) its.2) ∙ last) in
                subst (IsStored procedures slots_left d kd) is (record {
                  procedure = ap (λ z. z.procedure) same_x ∙ its_d.procedure;
                  args = ap (λ z. z.args.items) same_x ∙ its_d.args;
                  code = its_d.code;
                  reply = sym (no_reply_in its.0.progress (length slots_left) its.2) ∙ its_d.reply;
                  slot = λ i e. let one : j ≡ i = same_item e in ap (λ n. slice_get slots_left n) (sym one) ∙ at_om ∙ ap Some (sym here);
                  steps = λ reply n e. absurd cc;
                })
            | inr (not_m, before_s) ↦
                let its_d = h.each d kd sd before (sym (slice_get-set_other calls c d call_done not_c) ∙ before_s) in
                record {
                  procedure = its_d.procedure;
                  args = its_d.args;
                  code = its_d.code;
                  reply = its_d.reply;
                  slot = λ i e.
                      let at_slot = its_d.slot i e in
                      let not_j = another_slot d kd i not_c at_slot in
                      let within = slice_get_within slots i (open_call d kd) at_slot in
                      let not_last : length slots_left ≢ i = λ same. not_m (ap (λ z. z.call) (same_item (sym last ∙ ap (λ n. slice_get slots n) same ∙ at_slot))) in
                      let less : i < length slots_left = below i (length slots) (length slots_left) within not_last r.long in
                      r.other i less not_j ∙ at_slot;
                  steps = its_d.steps;
                }
          ]
        ];
        each_slot = λ i o at_i.
            let lt_i = slice_get_within slots_left i o at_i in
            elim (cases_eq j i) [
              | inl same ↦
                  let o_is : om ≡ o = same_item (sym at_om ∙ ap (λ n. slice_get slots_left n) same ∙ at_i) in
                  subst (λ z. (y : Call) × (slice_get (set calls1 om.call x2) z.call ≡ Some y) × (slot_of y.progress ≡ Some i)) o_is
                  (x2, slice_get-set_same calls1 om.call x2 inside, ap Some same)
              | inr not_j ↦
                  let its_o = h.each_slot i o (sym (r.other i lt_i not_j) ∙ at_i) in
                  let not_c = another_call i o.call its_o.0 not_j its_o.1 its_o.2 in
                  let not_m : om.call ≢ o.call = λ same.
                  not_the_last (length slots_left) i lt_i (same_item (sym its.2 ∙ ap (λ z. slot_of z.progress) (same_item (sym its.1 ∙ ap (λ n. slice_get calls n) same ∙ its_o.1)) ∙ its_o.2)) in
                  (its_o.0, slice_get-set_other calls1 om.call o.call x2 not_m ∙ slice_get-set_other calls c o.call call_done not_c ∙ its_o.1, its_o.2)
            ];
      }
    where
      below : (i n m : ℕ) → i < n → m ≢ i → m + 1 ≡ n → i < m
      below i n m lt ne gone = omega (arith, ne)

      not_the_last : (n i : ℕ) → i < n → n ≡ i → ⊥
      not_the_last n i lt same = omega arith

      no_reply_in : (p : Progress) (i : ℕ) → slot_of p ≡ Some i → reply_in p ≡ None
      no_reply_in (Open n) i e = refl
      no_reply_in (Done reply n) i e = absurd cc
