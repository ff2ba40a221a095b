-- Actions that obey the protocol by positions, with none after an end, are permitted one after another.
use Rattle.std.proofs.Common.{◌≡◌, ◌≢◌, ℕ, suc, ◌≤◌, ◌==◌, true, false, List, [], ◌∷◌, ◌++◌, length, refl, sym, ap, ◌∙◌, subst, inl, inr, arith, Some, slice_get, reverse, length-append}
use Rattle.std.proofs.lemmas.Bool.{cases_Bool, false_from_ne_true, both_ways, eqb-true}
use Rattle.std.proofs.lemmas.Option.{slice_get_within}
use Rattle.tl_tree.specs.Records.{Record}
use Rattle.tl_tree.specs.Shape.{parent}
use Rattle.tl_tree_locking.specs.declared.action.Action.{Action}
use Rattle.tl_tree_locking.specs.declared.action.Action.TheVariants as A
use Rattle.tl_tree_locking.specs.declared.event.Event.{Event}
use Rattle.tl_tree_locking.specs.declared.event.Event.TheVariants.{Admit, Lock, Free, Done}
use Rattle.tl_tree_locking.specs.Actions.{locks, frees, is_lock, is_end, locked, held, locked_any, has_ended, Permitted, EachPermitted}
use Rattle.tl_tree_locking.specs.Obeys.{IsHeldAt, Touches, Obeys, EndsLast}
use Rattle.tl_tree_locking.specs.History.{part_of, is_done, IsOpen, InTurn, Apart, IsLegalHistory}
use Rattle.tl_tree_locking.proofs.ListPlaces.{earliest_first, earliest_first-reverse, place_kept, place_back, place_new, place_cases}
use Rattle.tl_tree_locking.proofs.ObeysByPlaces.{lock_is, free_is, locks_it, ended_there, held_at}

-- ---- what was done stands at some place

some_lock : (a : Action) → is_lock a ≡ true → (y : ℕ) × (found : Record) × (a ≡ A.Lock y found)
some_lock (A.Lock y found) h = (y, found, refl)
some_lock (A.Read y field value) h = absurd (both_ways false refl h)
some_lock (A.Write y field value) h = absurd (both_ways false refl h)
some_lock (A.Free y left) h = absurd (both_ways false refl h)
some_lock (A.Emit value) h = absurd (both_ways false refl h)
some_lock A.End h = absurd (both_ways false refl h)
some_lock A.Plain h = absurd (both_ways false refl h)

end_is : (a : Action) → is_end a ≡ true → a ≡ A.End
end_is A.End h = refl
end_is (A.Lock y found) h = absurd (both_ways false refl h)
end_is (A.Read y field value) h = absurd (both_ways false refl h)
end_is (A.Write y field value) h = absurd (both_ways false refl h)
end_is (A.Free y left) h = absurd (both_ways false refl h)
end_is (A.Emit value) h = absurd (both_ways false refl h)
end_is A.Plain h = absurd (both_ways false refl h)

locked_place : (done : List Action) (x : ℕ) → locked done x ≡ true → (k : ℕ) × (found : Record) × (slice_get (earliest_first done) k ≡ Some (A.Lock x found))
locked_place [] x h = absurd (both_ways false refl h)
locked_place (a ∷ done) x h = elim (cases_Bool (locks a x)) [
  | inl mine ↦ let l = lock_is a x mine in (length (earliest_first done), l.0, place_new (earliest_first done) a ∙ ap Some l.1)
  | inr other ↦ let r = locked_place done x (grind (arith, h, other)) in (r.0, r.1, place_kept (earliest_first done) (a ∷ []) r.0 (A.Lock x r.1) r.2)
]

any_place : (done : List Action) → locked_any done ≡ true → (k y : ℕ) × (found : Record) × (slice_get (earliest_first done) k ≡ Some (A.Lock y found))
any_place [] h = absurd (both_ways false refl h)
any_place (a ∷ done) h = elim (cases_Bool (is_lock a)) [
  | inl mine ↦ let l = some_lock a mine in (length (earliest_first done), l.0, l.1, place_new (earliest_first done) a ∙ ap Some l.2)
  | inr other ↦ let r = any_place done (rw other at h) in (r.0, r.1, r.2, place_kept (earliest_first done) (a ∷ []) r.0 (A.Lock r.1 r.2) r.3)
]

ended_place : (done : List Action) → has_ended done ≡ true → (k : ℕ) × (slice_get (earliest_first done) k ≡ Some A.End)
ended_place [] h = absurd (both_ways false refl h)
ended_place (a ∷ done) h = elim (cases_Bool (is_end a)) [
  | inl mine ↦ (length (earliest_first done), place_new (earliest_first done) a ∙ ap Some (end_is a mine))
  | inr other ↦ let r = ended_place done (rw other at h) in (r.0, place_kept (earliest_first done) (a ∷ []) r.0 A.End r.1)
]

-- ---- holding a node

held_less : (xs ys : List Action) (k x : ℕ) → k ≤ length xs → IsHeldAt (xs ++ ys) k x → IsHeldAt xs k x
held_less xs ys k x le h = record {
  place = h.place;
  found = h.found;
  earlier = h.earlier;
  is_lock = let lt = h.earlier in place_back xs ys h.place (A.Lock x h.found) (omega arith) h.is_lock;
  kept = λ i left low high w. h.kept i left low high (place_kept xs ys i (A.Free x left) w);
}

at_held : (done : List Action) (x : ℕ) → IsHeldAt (earliest_first done) (length (earliest_first done)) x → held done x ≡ true
at_held [] x h = let none = h.is_lock in absurd cc
at_held (a ∷ done) x h =
    let more : length (earliest_first done ++ a ∷ []) ≡ suc (length (earliest_first done)) = simp length-append (omega arith) in
    elim (place_cases (earliest_first done) a (A.Lock x h.found) h.place h.is_lock) [
      | inr new ↦ let l = locks_it a x h.found new.1 in grind (arith, l)
      | inl old ↦ elim (cases_Bool (frees a x)) [
        | inl mine ↦
            let f = free_is a x mine in
            absurd (h.kept (length (earliest_first done)) f.0 old.0 (omega arith) (place_new (earliest_first done) a ∙ ap Some f.1))
        | inr other ↦
            let i = at_held done x (record {
              place = h.place;
              found = h.found;
              earlier = old.0;
              is_lock = old.1;
              kept = λ i left low high w. h.kept i left low (omega arith) (place_kept (earliest_first done) (a ∷ []) i (A.Free x left) w);
            }) in grind (arith, i, other)
      ]
    ]

-- ---- the rules

-- actions that obey the protocol also do so without the last one, if no other is the end
one_less : (parents : List ℕ) (xs : List Action) (a : Action) → ((e : ℕ) → slice_get xs e ≢ Some A.End) → Obeys parents (xs ++ a ∷ []) → Obeys parents xs
one_less parents xs a going whole = record {
  parent_held = λ k x found h.
      let lt = slice_get_within xs k (A.Lock x found) h in
      elim (whole.parent_held k x found (place_kept xs (a ∷ []) k (A.Lock x found) h)) [
        | inl first ↦ inl (λ j y other below w. first j y other below (place_kept xs (a ∷ []) j (A.Lock y other) w))
        | inr holds ↦ inr (held_less xs (a ∷ []) k (parent parents x) (omega arith) holds)
      ];
  once = λ j k x found again hj hk. whole.once j k x found again (place_kept xs (a ∷ []) j (A.Lock x found) hj) (place_kept xs (a ∷ []) k (A.Lock x again) hk);
  touched_held = λ k x b h t.
      let lt = slice_get_within xs k b h in
      held_less xs (a ∷ []) k x (omega arith) (whole.touched_held k x b (place_kept xs (a ∷ []) k b h) t);
  all_freed = λ e k x found he hk. absurd (going e he);
}

-- the node that the last action touches is held before it
last_held : (parents : List ℕ) (done : List Action) (a : Action) (x : ℕ) → Obeys parents (earliest_first done ++ a ∷ []) → Touches a x → held done x ≡ true
last_held parents done a x whole t =
    let xs = earliest_first done in
    at_held done x (held_less xs (a ∷ []) (length xs) x (omega arith) (whole.touched_held (length xs) x a (place_new xs a) t))

last_permitted : (parents : List ℕ) (done : List Action) (a : Action) → Obeys parents (earliest_first done ++ a ∷ []) → Permitted parents done a
last_permitted parents done (A.Lock x found) whole =
    let xs = earliest_first done in
    let a = A.Lock x found in (
      false_from_ne_true (locked done x) (λ l.
          let r = locked_place done x l in
          let lt = slice_get_within xs r.0 (A.Lock x r.1) r.2 in
          let same = whole.once r.0 (length xs) x r.1 found (place_kept xs (a ∷ []) r.0 (A.Lock x r.1) r.2) (place_new xs a) in
          omega arith),
      λ any. elim (whole.parent_held (length xs) x found (place_new xs a)) [
        | inl first ↦
            let r = any_place done any in
            let lt = slice_get_within xs r.0 (A.Lock r.1 r.2) r.3 in
            absurd (first r.0 r.1 r.2 lt (place_kept xs (a ∷ []) r.0 (A.Lock r.1 r.2) r.3))
        | inr holds ↦ at_held done (parent parents x) (held_less xs (a ∷ []) (length xs) (parent parents x) (omega arith) holds)
      ],
    )
last_permitted parents done (A.Read x field value) whole = last_held parents done (A.Read x field value) x whole refl
last_permitted parents done (A.Write x field value) whole = last_held parents done (A.Write x field value) x whole refl
last_permitted parents done (A.Free x left) whole = last_held parents done (A.Free x left) x whole refl
last_permitted parents done (A.Emit value) whole = tt
last_permitted parents done A.End whole = λ x.
    let xs = earliest_first done in
    false_from_ne_true (held done x) (λ h.
    let at_end = held_at done x h in
    let lock = place_kept xs (A.End ∷ []) at_end.place (A.Lock x at_end.found) at_end.is_lock in
    let f = whole.all_freed (length xs) at_end.place x at_end.found (place_new xs A.End) lock in
    elim (place_cases xs A.End (A.Free x f.left) f.place f.is_free) [
      | inl old ↦ at_end.kept f.place f.left f.later old.0 old.1
      | inr new ↦ let e : A.End ≡ A.Free x f.left = new.1 in absurd cc
    ])
last_permitted parents done A.Plain whole = tt

permitted_earliest : (parents : List ℕ) (done : List Action) → Obeys parents (earliest_first done) → EndsLast (earliest_first done) → EachPermitted parents done
permitted_earliest parents [] whole ends = tt
permitted_earliest parents (a ∷ done) whole ends =
    let xs = earliest_first done in
    let more : length (xs ++ a ∷ []) ≡ suc (length xs) = simp length-append (omega arith) in
    let going : has_ended done ≡ false = false_from_ne_true (has_ended done) (λ h.
    let r = ended_place done h in
    let lt = slice_get_within xs r.0 A.End r.1 in
    let at_end = ends r.0 (place_kept xs (a ∷ []) r.0 A.End r.1) in
    omega arith) in
    let none : (e : ℕ) → slice_get xs e ≢ Some A.End = λ e w. both_ways (has_ended done) going (ended_there done e w) in
    (last_permitted parents done a whole, going, permitted_earliest parents done (one_less parents xs a none whole) (λ e w. absurd (none e w)))

-- actions that obey the protocol, with none after an end, are permitted one after another
pub places_permitted : (parents : List ℕ) (done : List Action) → Obeys parents (reverse done) → EndsLast (reverse done) → EachPermitted parents done
places_permitted parents done whole ends =
    let e = earliest_first-reverse done in
    permitted_earliest parents done (subst (Obeys parents) (sym e) whole) (subst EndsLast (sym e) ends)

-- ---- nothing comes after an end

-- one more action, where none before it is the end
ends_more : (done : List Action) (a : Action) → has_ended done ≡ false → EndsLast (earliest_first (a ∷ done))
ends_more done a going e h =
    let xs = earliest_first done in
    let more : length (xs ++ a ∷ []) ≡ suc (length xs) = simp length-append (omega arith) in
    elim (place_cases xs a A.End e h) [
      | inl old ↦ absurd (both_ways (has_ended done) going (ended_there done e old.1))
      | inr new ↦ let at_end = new.0 in omega arith
    ]

pub permitted_ends : (parents : List ℕ) (done : List Action) → EachPermitted parents done → EndsLast (reverse done)
permitted_ends parents done h = subst EndsLast (earliest_first-reverse done) (go done h)
  where
    go : (done : List Action) → EachPermitted parents done → EndsLast (earliest_first done)
    go [] h = λ e w. absurd cc
    go (a ∷ done) h = ends_more done a h.1

-- a call has ended exactly if it is done
pub has_ended-part_of : (c : ℕ) (past : List Event) → has_ended (part_of c past) ≡ is_done c past
has_ended-part_of c [] = refl
has_ended-part_of c (Admit d ∷ past) = has_ended-part_of c past
has_ended-part_of c (Lock x d found ∷ past) = elim (cases_Bool (d == c)) [ inl mine ↦ rw mine (has_ended-part_of c past) | inr other ↦ rw other (has_ended-part_of c past) ]
has_ended-part_of c (Free x d left ∷ past) = elim (cases_Bool (d == c)) [ inl mine ↦ rw mine (has_ended-part_of c past) | inr other ↦ rw other (has_ended-part_of c past) ]
has_ended-part_of c (Done d ∷ past) = elim (cases_Bool (d == c)) [ inl mine ↦ rw mine refl | inr other ↦ rw other (has_ended-part_of c past) ]

-- a call that is open hasn't ended
going_on : (past : List Event) (c d : ℕ) → IsOpen d past → (d == c) ≡ true → has_ended (part_of c past) ≡ false
going_on past c d is_open mine = has_ended-part_of c past ∙ subst (λ z. is_done z past ≡ false) (eqb-true d c mine) is_open.1

part_ends : (past : List Event) → InTurn past → (c : ℕ) → EndsLast (earliest_first (part_of c past))
part_ends [] turn c = λ e w. absurd cc
part_ends (Admit d ∷ past) turn c = part_ends past turn.1 c
part_ends (Lock x d found ∷ past) turn c = elim (cases_Bool (d == c)) [
  | inl mine ↦ rw mine (ends_more (part_of c past) (A.Lock x found) (going_on past c d turn.0 mine))
  | inr other ↦ rw other (part_ends past turn.1 c)
]
part_ends (Free x d left ∷ past) turn c = elim (cases_Bool (d == c)) [
  | inl mine ↦ rw mine (ends_more (part_of c past) (A.Free x left) (going_on past c d turn.0 mine))
  | inr other ↦ rw other (part_ends past turn.1 c)
]
part_ends (Done d ∷ past) turn c = elim (cases_Bool (d == c)) [
  | inl mine ↦ rw mine (ends_more (part_of c past) A.End (going_on past c d turn.0 mine))
  | inr other ↦ rw other (part_ends past turn.1 c)
]

-- a history is legal if its events are in turn, its locks are apart, and each part obeys the protocol by positions
pub places_legal : (parents : List ℕ) (past : List Event) → ((c : ℕ) → Obeys parents (reverse (part_of c past))) → Apart past → InTurn past → IsLegalHistory parents past
places_legal parents past obeys apart turn = record {
  obeys = λ c. places_permitted parents (part_of c past) (obeys c) (subst EndsLast (earliest_first-reverse (part_of c past)) (part_ends past turn c));
  apart = apart;
  in_turn = turn;
}
