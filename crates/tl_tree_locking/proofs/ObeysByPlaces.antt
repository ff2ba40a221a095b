-- Actions that are each permitted after the previous ones obey the protocol by positions.
use Rattle.std.proofs.Common.{◌≡◌, ℕ, zero, suc, ◌≤◌, true, false, List, [], ◌∷◌, ◌++◌, length, refl, sym, ap, ◌∙◌, subst, inl, inr, arith, Some, slice_get, take, reverse, append_assoc, length-append}
use Rattle.std.proofs.lemmas.Bool.{cases_Bool, both_ways, eqb-true, eq-eqb}
use Rattle.std.proofs.lemmas.List.{append-nil}
use Rattle.tl_tree.specs.Records.{Record, Records}
use Rattle.tl_tree.specs.Shape.{parent}
use Rattle.tl_tree_locking.specs.declared.action.Action.{Action}
use Rattle.tl_tree_locking.specs.declared.action.Action.TheVariants as A
use Rattle.tl_tree_locking.specs.Actions.{locks, frees, is_end, locked, held, locked_any, has_ended, taken, Permitted, EachPermitted}
use Rattle.tl_tree_locking.specs.Obeys.{IsHeldAt, IsFreedAfter, Touches, Obeys}
use Rattle.tl_tree_locking.specs.Alone.{Outcome, IsAlone}
use Rattle.tl_tree_locking.proofs.MayComeLemmas.{locked-any}
use Rattle.tl_tree_locking.proofs.Alone.{obeys_taken}
use Rattle.tl_tree_locking.proofs.ListPlaces.{earliest_first, earliest_first-reverse, place_kept, place_back, place_new, place_cases}

-- ---- what one action is

pub lock_is : (a : Action) (x : ℕ) → locks a x ≡ true → (found : Record) × (a ≡ A.Lock x found)
lock_is (A.Lock y found) x h = (found, ap (λ z. A.Lock z found) (eqb-true y x h))
lock_is (A.Read y field value) x h = absurd (both_ways false refl h)
lock_is (A.Write y field value) x h = absurd (both_ways false refl h)
lock_is (A.Free y left) x h = absurd (both_ways false refl h)
lock_is (A.Emit value) x h = absurd (both_ways false refl h)
lock_is A.End x h = absurd (both_ways false refl h)
lock_is A.Plain x h = absurd (both_ways false refl h)

pub free_is : (a : Action) (x : ℕ) → frees a x ≡ true → (left : Record) × (a ≡ A.Free x left)
free_is (A.Free y left) x h = (left, ap (λ z. A.Free z left) (eqb-true y x h))
free_is (A.Read y field value) x h = absurd (both_ways false refl h)
free_is (A.Write y field value) x h = absurd (both_ways false refl h)
free_is (A.Lock y found) x h = absurd (both_ways false refl h)
free_is (A.Emit value) x h = absurd (both_ways false refl h)
free_is A.End x h = absurd (both_ways false refl h)
free_is A.Plain x h = absurd (both_ways false refl h)

pub locks_it : (a : Action) (x : ℕ) (found : Record) → a ≡ A.Lock x found → locks a x ≡ true
locks_it a x found e = let self = eq-eqb x x refl in rw e self

pub frees_it : (a : Action) (x : ℕ) (left : Record) → a ≡ A.Free x left → frees a x ≡ true
frees_it a x left e = let self = eq-eqb x x refl in rw e self

-- ---- what stands at a place was done

pub locked_there : (done : List Action) (k x : ℕ) (found : Record) → slice_get (earliest_first done) k ≡ Some (A.Lock x found) → locked done x ≡ true
locked_there [] k x found h = absurd cc
locked_there (a ∷ done) k x found h = elim (place_cases (earliest_first done) a (A.Lock x found) k h) [
  | inl old ↦ let l = locked_there done k x found old.1 in grind (arith, l)
  | inr new ↦ let l = locks_it a x found new.1 in grind (arith, l)
]

pub ended_there : (done : List Action) (k : ℕ) → slice_get (earliest_first done) k ≡ Some A.End → has_ended done ≡ true
ended_there [] k h = absurd cc
ended_there (a ∷ done) k h = elim (place_cases (earliest_first done) a A.End k h) [
  | inl old ↦ let l = ended_there done k old.1 in grind (arith, l)
  | inr new ↦ let l : is_end a ≡ true = ap is_end new.1 in grind (arith, l)
]

-- ---- holding a node

held_more : (xs ys : List Action) (k x : ℕ) → k ≤ length xs → IsHeldAt xs k x → IsHeldAt (xs ++ ys) k x
held_more xs ys k x le h = record {
  place = h.place;
  found = h.found;
  earlier = h.earlier;
  is_lock = place_kept xs ys h.place (A.Lock x h.found) h.is_lock;
  kept = λ i left low high w. h.kept i left low high (place_back xs ys i (A.Free x left) (omega arith) w);
}

-- a node that is held was locked at some position and not freed since
pub held_at : (done : List Action) (x : ℕ) → held done x ≡ true → IsHeldAt (earliest_first done) (length (earliest_first done)) x
held_at [] x h = absurd (both_ways false refl h)
held_at (a ∷ done) x h =
    let more : length (earliest_first done ++ a ∷ []) ≡ suc (length (earliest_first done)) = simp length-append (omega arith) in
    elim (cases_Bool (locks a x)) [
      | inl mine ↦
          let l = lock_is a x mine in
          record {
            place = length (earliest_first done);
            found = l.0;
            earlier = omega arith;
            is_lock = place_new (earliest_first done) a ∙ ap Some l.1;
            kept = λ i left low high w. omega arith;
          }
      | inr other ↦
          let old = held_at done x (grind (arith, h, other)) in
          let unfreed : frees a x ≡ false = grind (arith, h, other) in
          record {
            place = old.place;
            found = old.found;
            earlier = let lt = old.earlier in omega arith;
            is_lock = place_kept (earliest_first done) (a ∷ []) old.place (A.Lock x old.found) old.is_lock;
            kept = λ i left low high w. elim (place_cases (earliest_first done) a (A.Free x left) i w) [
              | inl was ↦ old.kept i left low was.0 was.1
              | inr new ↦ both_ways (frees a x) unfreed (frees_it a x left new.1)
            ];
          }
    ]

-- a node that was locked and isn't held any more was freed after the lock
freed_after : (done : List Action) (k x : ℕ) (found : Record) → slice_get (earliest_first done) k ≡ Some (A.Lock x found) → held done x ≡ false → IsFreedAfter (earliest_first done) k x
freed_after [] k x found h free = absurd cc
freed_after (a ∷ done) k x found h free = elim (place_cases (earliest_first done) a (A.Lock x found) k h) [
  | inr new ↦ let l = locks_it a x found new.1 in absurd (both_ways (held (a ∷ done) x) free (grind (arith, l)))
  | inl old ↦ elim (cases_Bool (frees a x)) [
    | inl mine ↦
        let f = free_is a x mine in
        record { place = length (earliest_first done); left = f.0; later = old.0; is_free = place_new (earliest_first done) a ∙ ap Some f.1 }
    | inr other ↦
        let before : held done x ≡ false = grind (arith, free, other) in
        let f = freed_after done k x found old.1 before in
        record { place = f.place; left = f.left; later = f.later; is_free = place_kept (earliest_first done) (a ∷ []) f.place (A.Free x f.left) f.is_free }
  ]
]

-- ---- the rules

-- a permitted action touches only a held node
touched : (parents : List ℕ) (done : List Action) (a : Action) (x : ℕ) → Permitted parents done a → Touches a x → held done x ≡ true
touched parents done (A.Read y field value) x p t = subst (λ z. held done z ≡ true) t p
touched parents done (A.Write y field value) x p t = subst (λ z. held done z ≡ true) t p
touched parents done (A.Free y left) x p t = subst (λ z. held done z ≡ true) t p
touched parents done (A.Lock y found) x p t = absurd t
touched parents done (A.Emit value) x p t = absurd t
touched parents done A.End x p t = absurd t
touched parents done A.Plain x p t = absurd t

one_more : (parents : List ℕ) (done : List Action) (a : Action) → Permitted parents done a → has_ended done ≡ false → Obeys parents (earliest_first done) → Obeys parents (earliest_first done ++ a ∷ [])
one_more parents done a p going old = let xs = earliest_first done in record {
  parent_held = λ k x found h. elim (place_cases xs a (A.Lock x found) k h) [
    | inl was ↦ elim (old.parent_held k x found was.1) [
      | inl first ↦ inl (λ j y other lt w. let in' = was.0 in first j y other lt (place_back xs (a ∷ []) j (A.Lock y other) (omega arith) w))
      | inr holds ↦ inr (held_more xs (a ∷ []) k (parent parents x) (let in' = was.0 in omega arith) holds)
    ]
    | inr new ↦
        let q : Permitted parents done (A.Lock x found) = subst (Permitted parents done) new.1 p in
        elim (cases_Bool (locked_any done)) [
          | inl some ↦ inr (subst (λ z. IsHeldAt (xs ++ a ∷ []) z (parent parents x)) (sym new.0) (held_more xs (a ∷ []) (length xs) (parent parents x) (omega arith) (held_at done (parent parents x) (q.1 some))))
          | inr none ↦ inl (λ j y other lt w.
              let at_end = new.0 in
              let l = locked_there done j y other (place_back xs (a ∷ []) j (A.Lock y other) (omega arith) w) in
              both_ways (locked_any done) none (locked-any done y l))
        ]
  ];
  once = λ j k x found again hj hk. elim (place_cases xs a (A.Lock x found) j hj) [
    | inl first ↦ elim (place_cases xs a (A.Lock x again) k hk) [
      | inl second ↦ old.once j k x found again first.1 second.1
      | inr new ↦
          let q : Permitted parents done (A.Lock x again) = subst (Permitted parents done) new.1 p in
          absurd (both_ways (locked done x) q.0 (locked_there done j x found first.1))
    ]
    | inr new ↦ elim (place_cases xs a (A.Lock x again) k hk) [
      | inl second ↦
          let q : Permitted parents done (A.Lock x found) = subst (Permitted parents done) new.1 p in
          absurd (both_ways (locked done x) q.0 (locked_there done k x again second.1))
      | inr both ↦ new.0 ∙ sym both.0
    ]
  ];
  touched_held = λ k x b h t. elim (place_cases xs a b k h) [
    | inl was ↦ held_more xs (a ∷ []) k x (let in' = was.0 in omega arith) (old.touched_held k x b was.1 t)
    | inr new ↦
        let l = touched parents done a x p (subst (λ z. Touches z x) (sym new.1) t) in
        subst (λ z. IsHeldAt (xs ++ a ∷ []) z x) (sym new.0) (held_more xs (a ∷ []) (length xs) x (omega arith) (held_at done x l))
  ];
  all_freed = λ e k x found he hk. elim (place_cases xs a A.End e he) [
    | inl was ↦ absurd (both_ways (has_ended done) going (ended_there done e was.1))
    | inr new ↦ elim (place_cases xs a (A.Lock x found) k hk) [
      | inl was ↦
          let q : Permitted parents done A.End = subst (Permitted parents done) new.1 p in
          let f = freed_after done k x found was.1 (q x) in
          record { place = f.place; left = f.left; later = f.later; is_free = place_kept xs (a ∷ []) f.place (A.Free x f.left) f.is_free }
      | inr both ↦ let e : A.End ≡ A.Lock x found = sym new.1 ∙ both.1 in absurd cc
    ]
  ];
}

pub obeys_earliest : (parents : List ℕ) (done : List Action) → EachPermitted parents done → Obeys parents (earliest_first done)
obeys_earliest parents [] h = record {
  parent_held = λ k x found w. absurd cc;
  once = λ j k x found again v w. absurd cc;
  touched_held = λ k x a w t. absurd cc;
  all_freed = λ e k x found v w. absurd cc;
}
obeys_earliest parents (a ∷ done) h = one_more parents done a h.0 h.1 (obeys_earliest parents done h.2)

-- actions that are each permitted after the previous ones obey the protocol
pub obeys_places : (parents : List ℕ) (done : List Action) → EachPermitted parents done → Obeys parents (reverse done)
obeys_places parents done h = subst (Obeys parents) (earliest_first-reverse done) (obeys_earliest parents done h)

-- ---- lists with the earliest first

pub taken-earliest : (k : ℕ) (actions done : List Action) → earliest_first (taken k actions done) ≡ earliest_first done ++ take k actions
taken-earliest zero actions done = sym (append-nil (earliest_first done))
taken-earliest (suc k) [] done = sym (append-nil (earliest_first done))
taken-earliest (suc k) (a ∷ actions) done = taken-earliest k actions (a ∷ done) ∙ append_assoc (earliest_first done) (a ∷ []) (take k actions)

-- the first k actions listed with the latest first, reversed, are the first k actions
pub reverse-taken : (k : ℕ) (actions : List Action) → reverse (taken k actions []) ≡ take k actions
reverse-taken k actions = sym (earliest_first-reverse (taken k actions [])) ∙ taken-earliest k actions []

-- the first k actions of a call alone obey the protocol
pub obeys_first : (parents : List ℕ) (alone : Records → Outcome) → IsAlone parents alone → (t : Records) → length t ≡ length parents → (k : ℕ) → Obeys parents (take k (alone t).actions)
obeys_first parents alone is t size k =
    let actions = (alone t).actions in
    subst (Obeys parents) (reverse-taken k actions) (obeys_places parents (taken k actions []) (obeys_taken parents k actions [] (is.obeys t size) tt))

-- all actions of a call alone obey the protocol
pub obeys_alone : (parents : List ℕ) (alone : Records → Outcome) → IsAlone parents alone → (t : Records) → length t ≡ length parents → Obeys parents (alone t).actions
obeys_alone parents alone is t size = subst (Obeys parents) (take_all (alone t).actions) (obeys_first parents alone is t size (length (alone t).actions))
  where
    take_all : (actions : List Action) → take (length actions) actions ≡ actions
    take_all [] = refl
    take_all (a ∷ actions) = ap (λ z. a ∷ z) (take_all actions)
