-- Locks are apart exactly if between two locks of a node the call of the first lock frees it.
use Rattle.std.proofs.Common.{◌≡◌, ◌≢◌, ℕ, suc, length-append, ◌≤◌, ◌<◌, ◌==◌, ◌⊎◌, true, false, List, [], ◌∷◌, ◌++◌, length, refl, sym, ap, ◌∙◌, subst, inl, inr, arith, Some, slice_get}
use Rattle.std.proofs.lemmas.Bool.{cases_Bool, false_from_ne_true, both_ways, eqb-true, eq-eqb}
use Rattle.std.proofs.lemmas.Option.{slice_get_within}
use Rattle.std.proofs.lemmas.List.{reverse-reverse}
use Rattle.tl_tree.specs.Records.{Record}
use Rattle.tl_tree_locking.specs.declared.action.Action.TheVariants as A
use Rattle.tl_tree_locking.specs.declared.event.Event.{Event}
use Rattle.tl_tree_locking.specs.declared.event.Event.TheVariants.{Admit, Lock, Free, Done}
use Rattle.tl_tree_locking.specs.Actions.{frees, held}
use Rattle.tl_tree_locking.specs.History.{past_of, part_of, Apart, IsFreedBetween, FreesBetweenLocks}
use Rattle.tl_tree_locking.proofs.PartLemmas.{part_of-lock, apart_before, held-lock, held-free, held-done}
use Rattle.tl_tree_locking.proofs.ListPlaces.{earliest_first, earliest_first-reverse, place_kept, place_back, place_new, place_cases}

-- if c doesn't hold a node after an event, it didn't hold the node before, or the event is c's free of the node
free_before : (e : Event) (past : List Event) (c x : ℕ) → held (part_of c (e ∷ past)) x ≡ false → (held (part_of c past) x ≡ false) ⊎ ((left : Record) × (e ≡ Free x c left))
free_before (Admit d) past c x h = inl h
free_before (Lock y d found) past c x h = elim (cases_Bool (d == c)) [
  | inl mine ↦ let g = rw mine at h in inl (grind (arith, g))
  | inr other ↦ inl (rw other at h)
]
free_before (Free y d left) past c x h = elim (cases_Bool (d == c)) [
  | inl mine ↦ elim (cases_Bool (y == x)) [
    | inl here ↦ inr (left, (λ i. Free (eqb-true y x here i) (eqb-true d c mine i) left))
    | inr away ↦ let g = rw mine at h in inl (grind (arith, g, away))
  ]
  | inr other ↦ inl (rw other at h)
]
free_before (Done d) past c x h = elim (cases_Bool (d == c)) [
  | inl mine ↦ let g = rw mine at h in inl (grind (arith, g))
  | inr other ↦ inl (rw other at h)
]

freed_more : (past : List Event) (e : Event) (j k c x : ℕ) → IsFreedBetween (earliest_first past) j k c x → (m : ℕ) → k ≤ m → IsFreedBetween (earliest_first past ++ e ∷ []) j m c x
freed_more past e j k c x h m le = record {
  place = h.place;
  left = h.left;
  later = h.later;
  earlier = let lt = h.earlier in omega arith;
  is_free = place_kept (earliest_first past) (e ∷ []) h.place (Free x c h.left) h.is_free;
}

-- if c locked a node and doesn't hold it any more, c has freed it since
freed_event : (past : List Event) (j c x : ℕ) (found : Record) → slice_get (earliest_first past) j ≡ Some (Lock x c found) → held (part_of c past) x ≡ false
    → IsFreedBetween (earliest_first past) j (length (earliest_first past)) c x
freed_event [] j c x found h free = absurd cc
freed_event (e ∷ past) j c x found h free =
    let more : length (earliest_first past ++ e ∷ []) ≡ suc (length (earliest_first past)) = simp length-append (omega arith) in
    elim (place_cases (earliest_first past) e (Lock x c found) j h) [
      | inr new ↦
          let q = part_of-lock c x found past in
          let held_now : held (part_of c (e ∷ past)) x ≡ true = rw new.1 (rw q (let self = eq-eqb x x refl in grind (arith, self))) in
          absurd (both_ways (held (part_of c (e ∷ past)) x) free held_now)
      | inl old ↦ elim (free_before e past c x free) [
        | inl was ↦ freed_more past e j (length (earliest_first past)) c x (freed_event past j c x found old.1 was) (length (earliest_first past ++ e ∷ [])) (omega arith)
        | inr now ↦ record {
          place = length (earliest_first past);
          left = now.0;
          later = old.0;
          earlier = omega arith;
          is_free = place_new (earliest_first past) e ∙ ap Some now.1;
        }
      ]
    ]

-- if the last event is a lock of a node, no call held the node before
apart_lock : (e : Event) (past : List Event) (d x : ℕ) (again : Record) → Apart (e ∷ past) → e ≡ Lock x d again → (c : ℕ) → held (part_of c past) x ≡ false
apart_lock e past d x again apart same = let a : Apart (Lock x d again ∷ past) = subst (λ z. Apart (z ∷ past)) same apart in a.0

between : (past : List Event) → Apart past → (j k c d x : ℕ) (found again : Record) → j < k → slice_get (earliest_first past) j ≡ Some (Lock x c found)
    → slice_get (earliest_first past) k ≡ Some (Lock x d again) → IsFreedBetween (earliest_first past) j k c x
between [] apart j k c d x found again lt hj hk = absurd cc
between (e ∷ past) apart j k c d x found again lt hj hk = elim (place_cases (earliest_first past) e (Lock x d again) k hk) [
  | inl old ↦
      let lt2 = old.0 in
      let first = place_back (earliest_first past) (e ∷ []) j (Lock x c found) (omega arith) hj in
      freed_more past e j k c x (between past (apart_before e past apart) j k c d x found again lt first old.1) k (omega arith)
  | inr new ↦
      let at_end = new.0 in
      let first = place_back (earliest_first past) (e ∷ []) j (Lock x c found) (omega arith) hj in
      let f = freed_event past j c x found first (apart_lock e past d x again apart new.1 c) in
      freed_more past e j (length (earliest_first past)) c x f k (omega arith)
]

-- ---- the other way

-- a lock of x by c after which c didn't free x
record IsHeldSince (events : List Event) (c x : ℕ) : Type 0 where
  place : ℕ
  found : Record
  is_lock : slice_get events place ≡ Some (Lock x c found)
  kept : (i : ℕ) (left : Record) → place < i → slice_get events i ≢ Some (Free x c left)

held_longer : (xs : List Event) (e : Event) (c x : ℕ) → ((left : Record) → e ≢ Free x c left) → IsHeldSince xs c x → IsHeldSince (xs ++ e ∷ []) c x
held_longer xs e c x other h = record {
  place = h.place;
  found = h.found;
  is_lock = place_kept xs (e ∷ []) h.place (Lock x c h.found) h.is_lock;
  kept = λ i left low w. elim (place_cases xs e (Free x c left) i w) [ inl old ↦ h.kept i left low old.1 | inr new ↦ other left new.1 ];
}

held_since : (past : List Event) (c x : ℕ) → held (part_of c past) x ≡ true → IsHeldSince (earliest_first past) c x
held_since [] c x h = absurd (both_ways false refl h)
held_since (Admit d ∷ past) c x h = held_longer (earliest_first past) (Admit d) c x (λ left w. cc) (held_since past c x h)
held_since (Lock y d found ∷ past) c x h = elim (held-lock d y found past c x h) [
  | inl new ↦
      let xs = earliest_first past in
      let more : length (xs ++ Lock y d found ∷ []) ≡ suc (length xs) = simp length-append (omega arith) in
      record {
        place = length xs;
        found = found;
        is_lock = place_new xs (Lock y d found) ∙ (λ i. Some (Lock (new.1 i) (new.0 i) found));
        kept = λ i left low w. let lt = slice_get_within (xs ++ Lock y d found ∷ []) i (Free x c left) w in omega arith;
      }
  | inr old ↦ held_longer (earliest_first past) (Lock y d found) c x (λ left w. cc) (held_since past c x old)
]
held_since (Free y d left ∷ past) c x h = held_longer (earliest_first past) (Free y d left) c x
    (λ other w.
    let who : d ≡ c = cc in
    let node : y ≡ x = cc in
    let p = eq-eqb d c who in
    let q = eq-eqb y x node in
    let g : held (A.Free y left ∷ part_of c past) x ≡ true = rw p at h in
    both_ways false refl (rw q at g))
    (held_since past c x (held-free d y left past c x h))
held_since (Done d ∷ past) c x h = held_longer (earliest_first past) (Done d) c x (λ left w. cc) (held_since past c x (held-done d past c x h))

frees_before : (xs : List Event) (e : Event) → FreesBetweenLocks (xs ++ e ∷ []) → FreesBetweenLocks xs
frees_before xs e frees j k c d x found again lt hj hk =
    let f = frees j k c d x found again lt (place_kept xs (e ∷ []) j (Lock x c found) hj) (place_kept xs (e ∷ []) k (Lock x d again) hk) in
    let low = f.earlier in
    let high = slice_get_within xs k (Lock x d again) hk in
    record { place = f.place; left = f.left; later = f.later; earlier = f.earlier; is_free = place_back xs (e ∷ []) f.place (Free x c f.left) (omega arith) f.is_free }

from_frees : (past : List Event) → FreesBetweenLocks (earliest_first past) → Apart past
from_frees [] frees = tt
from_frees (Admit d ∷ past) frees = from_frees past (frees_before (earliest_first past) (Admit d) frees)
from_frees (Lock x d again ∷ past) frees =
    let xs = earliest_first past in (
      λ c. false_from_ne_true (held (part_of c past) x) (λ h.
          let s = held_since past c x h in
          let lt = slice_get_within xs s.place (Lock x c s.found) s.is_lock in
          let f = frees s.place (length xs) c d x s.found again lt (place_kept xs (Lock x d again ∷ []) s.place (Lock x c s.found) s.is_lock) (place_new xs (Lock x d again)) in
          s.kept f.place f.left f.later (place_back xs (Lock x d again ∷ []) f.place (Free x c f.left) f.earlier f.is_free)),
      from_frees past (frees_before xs (Lock x d again) frees),
    )
from_frees (Free x d left ∷ past) frees = from_frees past (frees_before (earliest_first past) (Free x d left) frees)
from_frees (Done d ∷ past) frees = from_frees past (frees_before (earliest_first past) (Done d) frees)

-- ---- of a history as it is stored

past_of-earliest : (events : List Event) → earliest_first (past_of events) ≡ events
past_of-earliest events = earliest_first-reverse (past_of events) ∙ reverse-reverse events

-- if locks are apart, then between two locks of a node the call of the first lock frees it
pub apart_frees : (events : List Event) → Apart (past_of events) → FreesBetweenLocks events
apart_frees events apart = subst FreesBetweenLocks (past_of-earliest events) (between (past_of events) apart)

-- conversely, then each node is locked only while no call holds it
pub frees_apart : (events : List Event) → FreesBetweenLocks events → Apart (past_of events)
frees_apart events frees = from_frees (past_of events) (subst FreesBetweenLocks (sym (past_of-earliest events)) frees)
