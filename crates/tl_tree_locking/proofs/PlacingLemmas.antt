-- Two values for each node determine which calls may still lock it.
use Rattle.std.proofs.Common.{◌≡◌, ◌≢◌, ℕ, zero, suc, ◌+◌, ◌<◌, ◌≤◌, ◌==◌, ◌||◌, slice_get, set, get_or, length, true, false, List, [], ◌∷◌, ◌++◌, refl, sym, ap, ◌∙◌, subst, inl, inr, arith, Option, Some, None}
use Rattle.std.specs.Prelude.{◌&&◌, not, if◌then◌else◌, insert, min, is_some, eqb}
use Rattle.std.specs.Option.{option_eq}
use Rattle.std.proofs.Math.Nat.{min-zero, zero-min}
use Rattle.std.proofs.lemmas.Bool.{cases_Bool, cases_lt, cases_eq, both_ways, eqb-true, ne_eqb, eq-eqb}
use Rattle.std.proofs.lemmas.List.{get_or-set_same, get_or-set_other, length-set}
use Rattle.tl_tree.specs.Records.{Record}
use Rattle.tl_tree.specs.Shape.{parent, IsTree, Above, itself, below}
use Rattle.tl_tree_locking.specs.declared.action.Action.{Action}
use Rattle.tl_tree_locking.specs.declared.action.Action.TheVariants as A
use Rattle.tl_tree_locking.specs.declared.event.Event.{Event}
use Rattle.tl_tree_locking.specs.declared.event.Event.TheVariants.{Admit, Lock, Free, Done}
use Rattle.tl_tree_locking.specs.Actions.{locked, held, locked_any, lock_count, free_count, has_ended, Permitted, EachPermitted, may_come}
use Rattle.tl_tree_locking.specs.History.{caller, part_of, IsOpen, IsLegalHistory}
use Rattle.tl_tree_locking.specs.Order.{stands, before, IsDistinct, put_before, placed, placed_after}
use Rattle.tl_tree_locking.specs.Holders.{holder_of}
use Rattle.tl_tree_locking.specs.Placing.{is_call, under_of, with_coming, coming_along, coming_calls, place_before, held_below, IsLegalNext, AreUnder}
use Rattle.tl_tree_locking.proofs.Ancestors.{parent-lower, by_climbing, nodes_above-root, nodes_above-step}
use Rattle.tl_tree_locking.proofs.MayComeLemmas.{held-locked, locked-any, none-locked, child_pos, connected, may_parts, may_down, child_may, may_up, may_any, comes, comes-root}
use Rattle.tl_tree_locking.proofs.PartLemmas.{part_of-lock, part_of-free, part_of-done, part_of-other, legal_before, locked-lock, locked-free, locked-done}
use Rattle.tl_tree_locking.proofs.Holders.{held-holder, holder-held, nobody_holds}
use Rattle.tl_tree_locking.proofs.Permitted.{has_ended-part_of}
use Rattle.tl_tree_locking.proofs.Counts.{counts-none_held, none_held-counts}
use Rattle.tl_tree_locking.proofs.Orders.{put_before-same, put_before-none, before-right}
use Rattle.tl_tree_locking.proofs.PlacedAgrees.{KeepsOrder, placed_keeps_order}

pub is_call-some : (o : Option ℕ) (c : ℕ) → is_call o c ≡ true → o ≡ Some c
is_call-some None c h = absurd (both_ways false refl h)
is_call-some (Some d) c h = ap Some (eqb-true d c h)

pub some-is_call : (o : Option ℕ) (c : ℕ) → o ≡ Some c → is_call o c ≡ true
some-is_call o c h = let self = eq-eqb c c refl in rw h self

pub some-not_call : (o : Option ℕ) (c d : ℕ) → o ≡ Some c → c ≢ d → is_call o d ≡ false
some-not_call o c d h other = let ne = ne_eqb c d other in rw h ne

pub option_eq-call : (o : Option ℕ) (c : ℕ) → option_eq eqb o (Some c) ≡ is_call o c
option_eq-call None c = refl
option_eq-call (Some d) c = refl

-- ---- the call that last locked a node under its parent

-- the call under which a node was locked last has locked the node
pub under-locked : (parents : List ℕ) (past : List Event) (c x : ℕ) → under_of parents past x ≡ Some c → locked (part_of c past) x ≡ true
under-locked parents [] c x h = absurd cc
under-locked parents (Admit d ∷ past) c x h = under-locked parents past c x h
under-locked parents (Done d ∷ past) c x h = let q = locked-done d past c x in rw q (under-locked parents past c x h)
under-locked parents (Free y d left ∷ past) c x h = let q = locked-free d y left past c x in rw q (under-locked parents past c x h)
under-locked parents (Lock y d found ∷ past) c x h = elim (cases_Bool ((y == x) && is_call (holder_of past (parent parents x)) d)) [
  | inl here ↦
      let who : Some d ≡ Some c = rw here at h in
      let e : d ≡ c = cc in
      let same : (y == x) ≡ true = grind (arith, here) in
      let q = eq-eqb d c e in
      rw q (grind (arith, same))
  | inr away ↦
      let old = under-locked parents past c x (rw away at h) in
      elim (cases_Bool (d == c)) [ inl q ↦ rw q (grind (arith, old)) | inr q ↦ rw q old ]
]

-- a call that may lock x's parent hasn't locked x
pub not_yet_below : (parents : List ℕ) → IsTree parents → (done : List Action) (x : ℕ) (found : Record) → 0 < x → EachPermitted parents done → Permitted parents done (A.Lock (parent parents x) found) → locked done x ≡ false
not_yet_below parents tree done x found pos obeys p = elim (cases_Bool (locked done x)) [
  | inl l ↦
      let m = child_may parents tree done (parent parents x) p.0 (p.1 (locked-any done x l)) in
      let comes = (may_parts parents done (parent parents x) m).1 in
      absurd (both_ways (locked done (parent parents x)) p.0 (connected parents tree done obeys x pos l comes))
  | inr not' ↦ not'
]

-- if a call holds x's parent and has locked x, it was the last to lock x under that parent
pub locked-under : (parents : List ℕ) → IsTree parents → (past : List Event) → IsLegalHistory parents past → (c x : ℕ) → 0 < x → holder_of past (parent parents x) ≡ Some c → locked (part_of c past) x ≡ true
    → under_of parents past x ≡ Some c
locked-under parents tree [] legal c x pos h l = absurd (both_ways false refl l)
locked-under parents tree (Admit d ∷ past) legal c x pos h l = locked-under parents tree past (legal_before parents (Admit d) past legal) c x pos h l
locked-under parents tree (Done d ∷ past) legal c x pos h l =
    let q = locked-done d past c x in
    locked-under parents tree past (legal_before parents (Done d) past legal) c x pos h (rw q at l)
locked-under parents tree (Free y d left ∷ past) legal c x pos h l = elim (cases_Bool (y == parent parents x)) [
  | inl up ↦ let o : Option ℕ = None in let none : o ≡ Some c = rw up at h in absurd cc
  | inr off ↦
      let q = locked-free d y left past c x in
      locked-under parents tree past (legal_before parents (Free y d left) past legal) c x pos (rw off at h) (rw q at l)
]
locked-under parents tree (Lock y d found ∷ past) legal c x pos h l =
    let legal' = legal_before parents (Lock y d found) past legal in
    elim (cases_Bool (y == x)) [
      | inl same ↦
          let e : y ≡ x = eqb-true y x same in
          let low = parent-lower parents tree x pos in
          let ne : (y == parent parents x) ≡ false = ne_eqb y (parent parents x) (λ w. omega arith) in
          let h' : holder_of past (parent parents x) ≡ Some c = rw ne at h in
          elim (cases_eq d c) [
            | inl mine ↦
                let t = some-is_call (holder_of past (parent parents x)) d (h' ∙ ap Some (sym mine)) in
                rw (same, t) (ap Some mine)
            | inr other ↦
                let t = some-not_call (holder_of past (parent parents x)) c d h' (λ w. other (sym w)) in
                let q = part_of-other (Lock y d found) c past other in
                rw (same, t) (locked-under parents tree past legal' c x pos h' (rw q at l))
          ]
      | inr away ↦ elim (cases_Bool (y == parent parents x)) [
        | inl up ↦
            let who : Some d ≡ Some c = rw up at h in
            let e : d ≡ c = cc in
            let q = part_of-lock d y found past in
            let mine : Permitted parents (part_of d past) (A.Lock y found) × (has_ended (part_of d past) ≡ false) × EachPermitted parents (part_of d past) = rw q at (legal.obeys d) in
            let p : Permitted parents (part_of d past) (A.Lock (parent parents x) found) = subst (λ z. Permitted parents (part_of d past) (A.Lock z found)) (eqb-true y (parent parents x) up) mine.0 in
            let no = not_yet_below parents tree (part_of d past) x found pos mine.2 p in
            let l1 : locked (part_of d (Lock y d found ∷ past)) x ≡ true = subst (λ z. locked (part_of z (Lock y d found ∷ past)) x ≡ true) (sym e) l in
            let l2 : locked (A.Lock y found ∷ part_of d past) x ≡ true = rw q at l1 in
            let l3 : locked (part_of d past) x ≡ true = rw away at l2 in
            absurd (both_ways (locked (part_of d past) x) no l3)
        | inr off ↦
            let l' : locked (part_of c past) x ≡ true = elim (locked-lock d y found past c x l) [ inl new ↦ absurd (both_ways (y == x) away (eq-eqb y x new.1)) | inr old ↦ old ] in
            rw away (locked-under parents tree past legal' c x pos (rw off at h) l')
      ]
    ]

-- ---- one climb

stands-with_coming : (holder under : Option ℕ) (calls : List ℕ) (c : ℕ) → stands c (with_coming holder under calls) ≡ ((is_call holder c && not (is_call under c)) || stands c calls)
stands-with_coming None under calls c = refl
stands-with_coming (Some d) under calls c = elim (cases_eq d c) [
  | inl same ↦
      let q = eq-eqb d c same in
      let u : is_call under d ≡ is_call under c = ap (is_call under) same in
      elim (cases_Bool (is_call under c)) [ inl t ↦ rw (u, t, q) refl | inr t ↦ rw (u, t) (grind (arith, q)) ]
  | inr other ↦
      let ne = ne_eqb d c other in
      elim (cases_Bool (is_call under d)) [ inl t ↦ rw (t, ne) refl | inr t ↦ rw (t, ne) refl ]
]

pub coming_calls-root : (parents : List ℕ) (past : List Event) → coming_calls parents past 0 ≡ []
coming_calls-root parents past = rw nodes_above-root refl

-- each step up needs one holder
pub coming_calls-step : (parents : List ℕ) → IsTree parents → (past : List Event) (x : ℕ) → 0 < x
    → coming_calls parents past x ≡ with_coming (holder_of past (parent parents x)) (under_of parents past x) (coming_calls parents past (parent parents x))
coming_calls-step parents tree past x pos = ap (coming_along parents past x) (nodes_above-step parents tree x pos)

stands-coming_step : (parents : List ℕ) → IsTree parents → (past : List Event) (c x : ℕ) → 0 < x
    → stands c (coming_calls parents past x) ≡ ((is_call (holder_of past (parent parents x)) c && not (is_call (under_of parents past x) c)) || stands c (coming_calls parents past (parent parents x)))
stands-coming_step parents tree past c x pos =
    ap (stands c) (coming_calls-step parents tree past x pos) ∙ stands-with_coming (holder_of past (parent parents x)) (under_of parents past x) (coming_calls parents past (parent parents x)) c

-- the holder of x's parent may still lock x if it wasn't the last to lock x under it
pub holder_may : (parents : List ℕ) → IsTree parents → (past : List Event) → IsLegalHistory parents past → (c x : ℕ) → 0 < x → holder_of past (parent parents x) ≡ Some c → under_of parents past x ≢ Some c
    → may_come parents (part_of c past) x ≡ true
holder_may parents tree past legal c x pos h other =
    let fresh : locked (part_of c past) x ≡ false = elim (cases_Bool (locked (part_of c past) x)) [ inl l ↦ absurd (other (locked-under parents tree past legal c x pos h l)) | inr not' ↦ not' ] in
    child_may parents tree (part_of c past) x fresh (holder-held parents past legal c (parent parents x) h)

-- the climb finds each call that may still lock x
may-found : (parents : List ℕ) → IsTree parents → (past : List Event) → IsLegalHistory parents past → (c x : ℕ) → may_come parents (part_of c past) x ≡ true → stands c (coming_calls parents past x) ≡ true
may-found parents tree past legal c =
    by_climbing parents tree (λ x. may_come parents (part_of c past) x ≡ true → stands c (coming_calls parents past x) ≡ true)
    (λ may. let m = may_parts parents (part_of c past) 0 may in absurd (both_ways (comes parents (part_of c past) 0) (comes-root parents (part_of c past)) m.1))
    (λ x pos ih may.
    let s = stands-coming_step parents tree past c x pos in
    elim (cases_Bool (held (part_of c past) (parent parents x))) [
      | inl h ↦
          let m = may_parts parents (part_of c past) x may in
          let t = some-is_call (holder_of past (parent parents x)) c (held-holder parents past legal c (parent parents x) h) in
          let u : is_call (under_of parents past x) c ≡ false = elim (cases_Bool (is_call (under_of parents past x) c)) [
            | inl i ↦ absurd (both_ways (locked (part_of c past) x) m.0 (under-locked parents past c x (is_call-some (under_of parents past x) c i)))
            | inr not' ↦ not'
          ] in
          grind (arith, s, t, u)
      | inr free ↦ let up = ih (may_up parents tree (part_of c past) x pos may free) in grind (arith, s, up)
    ])

-- each call that the climb finds may still lock x
found-may : (parents : List ℕ) → IsTree parents → (past : List Event) → IsLegalHistory parents past → (c x : ℕ) → stands c (coming_calls parents past x) ≡ true → may_come parents (part_of c past) x ≡ true
found-may parents tree past legal c =
    by_climbing parents tree (λ x. stands c (coming_calls parents past x) ≡ true → may_come parents (part_of c past) x ≡ true)
    (λ h. let e : stands c (coming_calls parents past 0) ≡ false = ap (stands c) (coming_calls-root parents past) in absurd (both_ways (stands c (coming_calls parents past 0)) e h))
    (λ x pos ih h.
    let s = stands-coming_step parents tree past c x pos in
    elim (cases_Bool (stands c (coming_calls parents past (parent parents x)))) [
      | inl up ↦ may_down parents tree (part_of c past) (legal.obeys c) x pos (ih up)
      | inr none ↦
          let t : is_call (holder_of past (parent parents x)) c ≡ true = grind (arith, s, h, none) in
          let u : is_call (under_of parents past x) c ≡ false = grind (arith, s, h, none) in
          holder_may parents tree past legal c x pos (is_call-some (holder_of past (parent parents x)) c t)
          (λ w. both_ways (is_call (under_of parents past x) c) u (some-is_call (under_of parents past x) c w))
    ])

-- one climb finds exactly the calls that may still lock x
pub may-coming_calls : (parents : List ℕ) → IsTree parents → (past : List Event) → IsLegalHistory parents past → (c x : ℕ) → may_come parents (part_of c past) x ≡ stands c (coming_calls parents past x)
may-coming_calls parents tree past legal c x =
    let there = may-found parents tree past legal c x in
    let back = found-may parents tree past legal c x in
    elim (cases_Bool (stands c (coming_calls parents past x))) [ inl s ↦ rw s (back s) | inr out ↦ elim (cases_Bool (may_come parents (part_of c past) x)) [ inl m ↦ absurd (both_ways (stands c (coming_calls parents past x)) out (there m)) | inr n ↦ n ∙ sym out ] ]

-- the climb finds each of them once
pub coming_calls-distinct : (parents : List ℕ) → IsTree parents → (past : List Event) → IsLegalHistory parents past → (x : ℕ) → IsDistinct (coming_calls parents past x)
coming_calls-distinct parents tree past legal =
    by_climbing parents tree (λ x. IsDistinct (coming_calls parents past x)) (rw coming_calls-root tt)
    (λ x pos ih. rw (coming_calls-step parents tree past x pos) (one_more parents tree past legal x (holder_of past (parent parents x)) refl ih))
  where
    one_more : (parents : List ℕ) → IsTree parents → (past : List Event) → IsLegalHistory parents past → (x : ℕ) (holder : Option ℕ) → holder_of past (parent parents x) ≡ holder → IsDistinct (coming_calls parents past (parent parents x))
        → IsDistinct (with_coming holder (under_of parents past x) (coming_calls parents past (parent parents x)))
    one_more parents tree past legal x None e ih = ih
    one_more parents tree past legal x (Some c) e ih = elim (cases_Bool (is_call (under_of parents past x) c)) [
      | inl t ↦ rw t ih
      | inr t ↦
          let l = held-locked (part_of c past) (parent parents x) (holder-held parents past legal c (parent parents x) e) in
          let fresh = λ (m : may_come parents (part_of c past) (parent parents x) ≡ true). (may_parts parents (part_of c past) (parent parents x) m).0 in
          let f = found-may parents tree past legal c (parent parents x) in
          rw t (grind (arith, l, fresh, f), ih)
    ]

-- ---- by nodes

-- a call that may still lock x holds the parent of a node at or above x, other than the root, and wasn't the last to lock that node under it
pub may-node : (parents : List ℕ) → IsTree parents → (past : List Event) → IsLegalHistory parents past → (c x : ℕ) → may_come parents (part_of c past) x ≡ true
    → (z : ℕ) × Above parents z x × (0 < z) × (holder_of past (parent parents z) ≡ Some c) × (under_of parents past z ≢ Some c)
may-node parents tree past legal c =
    by_climbing parents tree (λ x. may_come parents (part_of c past) x ≡ true → (z : ℕ) × Above parents z x × (0 < z) × (holder_of past (parent parents z) ≡ Some c) × (under_of parents past z ≢ Some c))
    (λ may. let m = may_parts parents (part_of c past) 0 may in absurd (both_ways (comes parents (part_of c past) 0) (comes-root parents (part_of c past)) m.1))
    (λ x pos ih may. elim (cases_Bool (held (part_of c past) (parent parents x))) [
      | inl h ↦
          let m = may_parts parents (part_of c past) x may in
          (x, itself, pos, held-holder parents past legal c (parent parents x) h, λ u. both_ways (locked (part_of c past) x) m.0 (under-locked parents past c x u))
      | inr free ↦ let r = ih (may_up parents tree (part_of c past) x pos may free) in (r.0, below r.1, r.2, r.3, r.4)
    ])

pub node-may : (parents : List ℕ) → IsTree parents → (past : List Event) → IsLegalHistory parents past → (c z x : ℕ) → Above parents z x → 0 < z → holder_of past (parent parents z) ≡ Some c → under_of parents past z ≢ Some c
    → may_come parents (part_of c past) x ≡ true
node-may parents tree past legal c z x itself pos h other = holder_may parents tree past legal c x pos h other
node-may parents tree past legal c z x (below up) pos h other =
    let may = node-may parents tree past legal c z (parent parents x) up pos h other in
    elim (cases_lt 0 x) [
      | inl inside ↦ may_down parents tree (part_of c past) (legal.obeys c) x inside may
      | inr root ↦
          let e : x ≡ 0 = omega arith in
          let same : parent parents x ≡ x = ap (parent parents) e ∙ tree.root ∙ sym e in
          subst (λ y. may_come parents (part_of c past) y ≡ true) same may
    ]

-- ---- the place of a first lock

-- a call is inserted before the first of the calls that the climb finds, or at the end
pub placed_by_climb : (parents : List ℕ) → IsTree parents → (past : List Event) → IsLegalHistory parents past → (c x : ℕ) (found : Record) (order : List ℕ)
    → placed_after parents past (Lock x c found) order ≡ (if stands c order then order else put_before (λ d. stands d (coming_calls parents past x)) c order)
placed_by_climb parents tree past legal c x found order =
    let same = put_before-same (λ d. may_come parents (part_of d past) x) (λ d. stands d (coming_calls parents past x)) c order (λ d here. may-coming_calls parents tree past legal d x) in
    ap (λ z. if stands c order then order else z) same

pub put_before-place : (calls : List ℕ) (c : ℕ) (order : List ℕ) → put_before (λ d. stands d calls) c order ≡ insert order (place_before calls order) c
put_before-place calls c [] = refl
put_before-place calls c (e ∷ es) = elim (cases_Bool (stands e calls)) [
  | inl here ↦ rw here refl
  | inr away ↦
      let k : place_before calls es + 1 ≡ suc (place_before calls es) = omega arith in
      rw (away, k) (ap (λ ds. e ∷ ds) (put_before-place calls c es))
]

-- without calls, the position is the end
pub place_before-none : (order : List ℕ) → place_before [] order ≡ length order
place_before-none [] = refl
place_before-none (e ∷ es) = let i = place_before-none es in omega (arith, i)

-- the position before the first of several calls is the minimum of two positions
pub place_before-more : (d : ℕ) (calls order : List ℕ) → place_before (d ∷ calls) order ≡ min (place_before (d ∷ []) order) (place_before calls order)
place_before-more d calls [] = refl
place_before-more d calls (e ∷ es) =
    let i = place_before-more d calls es in
    elim (cases_Bool (d == e)) [
      | inl same ↦ rw same (sym (zero-min (place_before calls (e ∷ es))))
      | inr other ↦ elim (cases_Bool (stands e calls)) [
        | inl here ↦ rw (other, here) (sym (min-zero (place_before (d ∷ []) es + 1)))
        | inr away ↦ rw (other, away) (omega (arith, i))
      ]
    ]

-- the position before one call is that call's position
pub place_before-one : (d : ℕ) (order : List ℕ) (k : ℕ) → IsDistinct order → slice_get order k ≡ Some d → place_before (d ∷ []) order ≡ k
place_before-one d [] k once h = absurd cc
place_before-one d (e ∷ es) zero once h =
    let who : Some e ≡ Some d = h in
    let same : e ≡ d = cc in
    let q = eq-eqb d e (sym same) in rw q refl
place_before-one d (e ∷ es) (suc k) once h =
    let i = place_before-one d es k once.1 h in
    let there = stands-got es k d h in
    elim (cases_eq d e) [
      | inl same ↦ absurd (both_ways (stands e es) once.0 (subst (λ z. stands z es ≡ true) same there))
      | inr other ↦ let ne = ne_eqb d e other in rw ne (omega (arith, i))
    ]
  where
    stands-got : (es : List ℕ) (k d : ℕ) → slice_get es k ≡ Some d → stands d es ≡ true
    stands-got [] k d h = absurd cc
    stands-got (e ∷ es) zero d h =
        let who : Some e ≡ Some d = h in
        let same : e ≡ d = cc in
        let q = eq-eqb e d same in grind (arith, q)
    stands-got (e ∷ es) (suc k) d h = let i = stands-got es k d h in grind (arith, i)

-- ---- where the climb may stop

pub held_below-grows : (past : List Event) (m n : ℕ) → m ≤ n → held_below m past ≤ held_below n past
held_below-grows past zero n le = omega arith
held_below-grows past (suc m) zero le = absurd (omega arith)
held_below-grows past (suc m) (suc n) le = elim (cases_eq m n) [
  | inl same ↦ let e = ap (λ z. held_below (suc z) past) same in omega (arith, e)
  | inr other ↦
      let i = held_below-grows past (suc m) n (omega (arith, other, le)) in
      elim (cases_Bool (is_some (holder_of past n))) [ inl h ↦ rw h (omega (arith, i)) | inr h ↦ rw h i ]
]

pub held_below-one : (past : List Event) (m n c : ℕ) → m < n → holder_of past m ≡ Some c → held_below m past + 1 ≤ held_below n past
held_below-one past m n c lt h =
    let g = held_below-grows past (suc m) n (omega arith) in
    let s : is_some (holder_of past m) ≡ true = rw h refl in
    let e : held_below (suc m) past ≡ held_below m past + 1 = rw s refl in
    omega (arith, g, e)

none_below : (past : List Event) (n y : ℕ) → held_below n past ≡ 0 → y < n → holder_of past y ≡ None
none_below past n y e lt = go (holder_of past y) refl
  where
    go : (o : Option ℕ) → holder_of past y ≡ o → o ≡ None
    go None h = refl
    go (Some d) h = let one = held_below-one past y n d lt h in absurd (omega (arith, one, e))

-- if no node with a number below x has a holder, the climb finds no calls
pub coming_calls-stop : (parents : List ℕ) → IsTree parents → (past : List Event) (x : ℕ) → held_below x past ≡ 0 → coming_calls parents past x ≡ []
coming_calls-stop parents tree past =
    by_climbing parents tree (λ x. held_below x past ≡ 0 → coming_calls parents past x ≡ []) (λ _. coming_calls-root parents past)
    (λ x pos ih e.
    let low = parent-lower parents tree x pos in
    let none = none_below past x (parent parents x) e low in
    let less = held_below-grows past (parent parents x) x (omega arith) in
    rw (coming_calls-step parents tree past x pos) (rw none (ih (omega (arith, less, e)))))

-- if x's parent has no holder, or one that was the last to lock x under it, the climb finds the same as from the parent
pub climb_on : (parents : List ℕ) → IsTree parents → (past : List Event) (x : ℕ) → 0 < x → ((d : ℕ) → holder_of past (parent parents x) ≡ Some d → under_of parents past x ≡ Some d)
    → coming_calls parents past x ≡ coming_calls parents past (parent parents x)
climb_on parents tree past x pos closed = coming_calls-step parents tree past x pos ∙ skip (holder_of past (parent parents x)) refl
  where
    skip : (holder : Option ℕ) → holder_of past (parent parents x) ≡ holder
        → with_coming holder (under_of parents past x) (coming_calls parents past (parent parents x)) ≡ coming_calls parents past (parent parents x)
    skip None e = refl
    skip (Some d) e = let u = some-is_call (under_of parents past x) d (closed d e) in rw u refl

-- otherwise the climb finds that holder first
pub climb_found : (parents : List ℕ) → IsTree parents → (past : List Event) (x d : ℕ) → 0 < x → holder_of past (parent parents x) ≡ Some d → under_of parents past x ≢ Some d
    → coming_calls parents past x ≡ d ∷ coming_calls parents past (parent parents x)
climb_found parents tree past x d pos h other =
    let u : is_call (under_of parents past x) d ≡ false = elim (cases_Bool (is_call (under_of parents past x) d)) [ inl t ↦ absurd (other (is_call-some (under_of parents past x) d t)) | inr f ↦ f ] in
    coming_calls-step parents tree past x pos ∙ (rw (h, u) refl)

-- ---- the first that the climb finds is the first in the order

nearest_ahead : (parents : List ℕ) → IsTree parents → (past : List Event) → IsLegalHistory parents past → (order : List ℕ) → KeepsOrder parents order past
    → (x d : ℕ) (calls : List ℕ) → coming_calls parents past x ≡ d ∷ calls → (e : ℕ) → stands e calls ≡ true → before order d e ≡ true
nearest_ahead parents tree past legal order keeps =
    by_climbing parents tree (λ x. (d : ℕ) (calls : List ℕ) → coming_calls parents past x ≡ d ∷ calls → (e : ℕ) → stands e calls ≡ true → before order d e ≡ true)
    (λ d calls q e s. let none : [] ≡ d ∷ calls = sym (coming_calls-root parents past) ∙ q in absurd cc)
    (λ x pos ih d calls q e s. up x pos ih (holder_of past (parent parents x)) refl d calls (sym (coming_calls-step parents tree past x pos) ∙ q) e s)
  where
    up : (x : ℕ) → 0 < x → ((d : ℕ) (calls : List ℕ) → coming_calls parents past (parent parents x) ≡ d ∷ calls → (e : ℕ) → stands e calls ≡ true → before order d e ≡ true)
        → (holder : Option ℕ) → holder_of past (parent parents x) ≡ holder → (d : ℕ) (calls : List ℕ) → with_coming holder (under_of parents past x) (coming_calls parents past (parent parents x)) ≡ d ∷ calls
        → (e : ℕ) → stands e calls ≡ true → before order d e ≡ true
    up x pos ih None h d calls q e s = ih d calls q e s
    up x pos ih (Some c) h d calls q e s = elim (cases_Bool (is_call (under_of parents past x) c)) [
      | inl t ↦ ih d calls (rw t at q) e s
      | inr t ↦
          let g : c ∷ coming_calls parents past (parent parents x) ≡ d ∷ calls = rw t at q in
          let same : c ≡ d = cc in
          let rest : coming_calls parents past (parent parents x) ≡ calls = cc in
          let l = held-locked (part_of c past) (parent parents x) (holder-held parents past legal c (parent parents x) h) in
          let may = found-may parents tree past legal e (parent parents x) (ap (stands e) rest ∙ s) in
          subst (λ z. before order z e ≡ true) same (keeps.ahead (parent parents x) c e l may)
    ]

-- if one of the calls comes before all the others, only that one matters
put_before-first : (d : ℕ) (calls : List ℕ) (c : ℕ) (order : List ℕ) → IsDistinct order → ((e : ℕ) → stands e calls ≡ true → before order d e ≡ true)
    → put_before (λ e. stands e (d ∷ calls)) c order ≡ put_before (λ e. d == e) c order
put_before-first d calls c [] once ahead = refl
put_before-first d calls c (e ∷ es) once ahead = elim (cases_eq d e) [
  | inl same ↦ let q = eq-eqb d e same in rw q refl
  | inr other ↦
      let q = ne_eqb d e other in
      let q' = ne_eqb e d (λ w. other (sym w)) in
      let away : stands e calls ≡ false = elim (cases_Bool (stands e calls)) [
        | inl s ↦ let b : before es d e ≡ true = rw q' at (ahead e s) in absurd (both_ways (stands e es) once.0 (before-right es d e b))
        | inr out ↦ out
      ] in
      rw (q, away) (ap (λ ds. e ∷ ds) (put_before-first d calls c es once.1 (λ f s. rw q' at (ahead f s))))
]

-- so a call is inserted directly before the first call that the climb finds, or at the end
pub placed_before_nearest : (parents : List ℕ) → IsTree parents → (past : List Event) → IsLegalHistory parents past → (c x : ℕ) (found : Record)
    → placed parents (Lock x c found ∷ past) ≡ (if stands c (placed parents past) then placed parents past else put_before (is_call (slice_get (coming_calls parents past x) 0)) c (placed parents past))
placed_before_nearest parents tree past legal c x found =
    placed_by_climb parents tree past legal c x found (placed parents past) ∙ ap (λ z. if stands c (placed parents past) then placed parents past else z) (first (coming_calls parents past x) refl)
  where
    first : (calls : List ℕ) → coming_calls parents past x ≡ calls → put_before (λ d. stands d (coming_calls parents past x)) c (placed parents past) ≡ put_before (is_call (slice_get (coming_calls parents past x) 0)) c (placed parents past)
    first [] q = rw q refl
    first (d ∷ calls) q =
        let keeps = placed_keeps_order parents tree past legal in
        rw q (put_before-first d calls c (placed parents past) keeps.distinct (nearest_ahead parents tree past legal (placed parents past) keeps x d calls q))

-- the first call that the climb finds occurs in the order
pub nearest_stands : (parents : List ℕ) → IsTree parents → (past : List Event) → IsLegalHistory parents past → (x d : ℕ) → slice_get (coming_calls parents past x) 0 ≡ Some d → stands d (placed parents past) ≡ true
nearest_stands parents tree past legal x d h =
    let may = found-may parents tree past legal d x (first (coming_calls parents past x) h) in
    let m = (placed_keeps_order parents tree past legal).members d in
    let some = may_any parents tree (part_of d past) x may in
    grind (arith, m, some)
  where
    first : (calls : List ℕ) → slice_get calls 0 ≡ Some d → stands d calls ≡ true
    first [] h = absurd cc
    first (e ∷ calls) h =
        let who : Some e ≡ Some d = h in
        let same : e ≡ d = cc in
        let q = eq-eqb e d same in grind (arith, q)

pub put_before-call : (d c : ℕ) (order : List ℕ) (k : ℕ) → IsDistinct order → slice_get order k ≡ Some d → put_before (is_call (Some d)) c order ≡ insert order k c
put_before-call d c order k once at =
    put_before-same (is_call (Some d)) (λ e. stands e (d ∷ [])) c order (λ e here. elim (cases_Bool (d == e)) [ inl q ↦ rw q refl | inr q ↦ rw q refl ])
    ∙ put_before-place (d ∷ []) c order ∙ ap (λ z. insert order z c) (place_before-one d order k once at)

pub put_before-no_call : (c : ℕ) (order : List ℕ) → put_before (is_call None) c order ≡ order ++ c ∷ []
put_before-no_call c order = put_before-none c order

-- how many of the first n nodes have a holder, after a lock of one of them that had none
pub held_below-lock : (past : List Event) (n c x : ℕ) (found : Record) → x < n → holder_of past x ≡ None → held_below n (Lock x c found ∷ past) ≡ held_below n past + 1
held_below-lock past n c x found lt none = (locked_node n lt)
  where
    others : (n : ℕ) → n ≤ x → held_below n (Lock x c found ∷ past) ≡ held_below n past
    others zero le = refl
    others (suc n) le =
        let i = others n (omega arith) in
        let ne : (x == n) ≡ false = ne_eqb x n (λ w. omega arith) in
        rw ne (elim (cases_Bool (is_some (holder_of past n))) [ inl h ↦ rw h (omega (arith, i)) | inr h ↦ rw h i ])

    locked_node : (n : ℕ) → x < n → held_below n (Lock x c found ∷ past) ≡ held_below n past + 1
    locked_node zero lt = absurd (omega arith)
    locked_node (suc n) lt = elim (cases_eq x n) [
      | inl same ↦
          let q = eq-eqb x n same in
          let f : holder_of past n ≡ None = subst (λ z. holder_of past z ≡ None) same none in
          let i = others n (omega (arith, same)) in
          rw (q, f) (omega (arith, i))
      | inr other ↦
          let ne = ne_eqb x n other in
          let i = locked_node n (omega (arith, other, lt)) in
          rw ne (elim (cases_Bool (is_some (holder_of past n))) [ inl h ↦ rw h (omega (arith, i)) | inr h ↦ rw h i ])
    ]

-- the same after a free of one of them that had a holder
pub held_below-free : (past : List Event) (n c x d : ℕ) (left : Record) → x < n → holder_of past x ≡ Some d → held_below n (Free x c left ∷ past) + 1 ≡ held_below n past
held_below-free past n c x d left lt some = (freed_node n lt)
  where
    others : (n : ℕ) → n ≤ x → held_below n (Free x c left ∷ past) ≡ held_below n past
    others zero le = refl
    others (suc n) le =
        let i = others n (omega arith) in
        let ne : (x == n) ≡ false = ne_eqb x n (λ w. omega arith) in
        rw ne (elim (cases_Bool (is_some (holder_of past n))) [ inl h ↦ rw h (omega (arith, i)) | inr h ↦ rw h i ])

    freed_node : (n : ℕ) → x < n → held_below n (Free x c left ∷ past) + 1 ≡ held_below n past
    freed_node zero lt = absurd (omega arith)
    freed_node (suc n) lt = elim (cases_eq x n) [
      | inl same ↦
          let q = eq-eqb x n same in
          let f : holder_of past n ≡ Some d = subst (λ z. holder_of past z ≡ Some d) same some in
          let i = others n (omega (arith, same)) in
          rw (q, f) (omega (arith, i))
      | inr other ↦
          let ne = ne_eqb x n other in
          let i = freed_node n (omega (arith, other, lt)) in
          rw ne (elim (cases_Bool (is_some (holder_of past n))) [ inl h ↦ rw h (omega (arith, i)) | inr h ↦ rw h i ])
    ]

-- ---- what is permitted

-- if a lock that isn't the call's first is permitted, the call holds the node's parent and wasn't the last to lock the node under it
pub lock_permitted : (parents : List ℕ) → IsTree parents → (past : List Event) → IsLegalHistory parents past → (c x : ℕ) (found : Record) → Permitted parents (part_of c past) (A.Lock x found)
    → locked_any (part_of c past) ≡ true → (0 < x) × (holder_of past (parent parents x) ≡ Some c) × (under_of parents past x ≢ Some c)
lock_permitted parents tree past legal c x found p some =
    let h = p.1 some in
    (child_pos parents tree (part_of c past) x p.0 h, held-holder parents past legal c (parent parents x) h, λ u. both_ways (locked (part_of c past) x) p.0 (under-locked parents past c x u))

pub permitted_lock : (parents : List ℕ) → IsTree parents → (past : List Event) → IsLegalHistory parents past → (c x : ℕ) (found : Record)
    → (locked_any (part_of c past) ≡ true → (0 < x) × (holder_of past (parent parents x) ≡ Some c) × (under_of parents past x ≢ Some c)) → Permitted parents (part_of c past) (A.Lock x found)
permitted_lock parents tree past legal c x found h = elim (cases_Bool (locked_any (part_of c past))) [
  | inl some ↦
      let r = h some in
      ((may_parts parents (part_of c past) x (holder_may parents tree past legal c x r.0 r.1 r.2)).0, λ _. holder-held parents past legal c (parent parents x) r.1)
  | inr none ↦ (none-locked (part_of c past) x none, λ some. absurd (both_ways (locked_any (part_of c past)) none some))
]

no_holder : (parents : List ℕ) (past : List Event) → IsLegalHistory parents past → (x : ℕ) → ((d : ℕ) → held (part_of d past) x ≡ false) → holder_of past x ≡ None
no_holder parents past legal x free = go (holder_of past x) refl
  where
    go : (o : Option ℕ) → holder_of past x ≡ o → o ≡ None
    go None e = refl
    go (Some d) e = absurd (both_ways (held (part_of d past) x) (free d) (holder-held parents past legal d x e))

-- an event after which the history is legal satisfies `IsLegalNext`
pub keeps_rules : (parents : List ℕ) → IsTree parents → (past : List Event) → IsLegalHistory parents past → (e : Event) → IsLegalHistory parents (e ∷ past) → IsLegalNext parents past e
keeps_rules parents tree past legal (Admit c) h = h.in_turn.0
keeps_rules parents tree past legal (Lock x c found) h =
    let q = part_of-lock c x found past in
    let mine : Permitted parents (part_of c past) (A.Lock x found) × (has_ended (part_of c past) ≡ false) × EachPermitted parents (part_of c past) = rw q at (h.obeys c) in
    let nobody : holder_of past x ≡ None = no_holder parents past legal x h.apart.0 in
    (h.in_turn.0, nobody, lock_permitted parents tree past legal c x found mine.0)
keeps_rules parents tree past legal (Free x c left) h =
    let q = part_of-free c x left past in
    let mine : Permitted parents (part_of c past) (A.Free x left) × (has_ended (part_of c past) ≡ false) × EachPermitted parents (part_of c past) = rw q at (h.obeys c) in
    (h.in_turn.0, held-holder parents past legal c x mine.0)
keeps_rules parents tree past legal (Done c) h =
    let q = part_of-done c past in
    let mine : Permitted parents (part_of c past) A.End × (has_ended (part_of c past) ≡ false) × EachPermitted parents (part_of c past) = rw q at (h.obeys c) in
    (h.in_turn.0, λ x u. both_ways (held (part_of c past) x) (mine.0 x) (holder-held parents past legal c x u))

-- if a call's next action is permitted, all parts obey the protocol after it
own_more : (parents : List ℕ) (past : List Event) → IsLegalHistory parents past → (c : ℕ) (e : Event) (a : Action) → caller e ≡ c → IsOpen c past → Permitted parents (part_of c past) a → part_of c (e ∷ past) ≡ a ∷ part_of c past
    → (d : ℕ) → EachPermitted parents (part_of d (e ∷ past))
own_more parents past legal c e a who is_open p q d = elim (cases_eq c d) [
  | inl same ↦ subst (λ z. EachPermitted parents (part_of z (e ∷ past))) same (rw q (p, has_ended-part_of c past ∙ is_open.1, legal.obeys c))
  | inr other ↦ let r = part_of-other e d past (λ w. other (sym who ∙ w)) in rw r (legal.obeys d)
]

pub rules_keep : (parents : List ℕ) → IsTree parents → (past : List Event) → IsLegalHistory parents past → (e : Event) → IsLegalNext parents past e → IsLegalHistory parents (e ∷ past)
rules_keep parents tree past legal (Admit c) h = record { obeys = legal.obeys; apart = legal.apart; in_turn = (h, legal.in_turn) }
rules_keep parents tree past legal (Lock x c found) h = record {
  obeys = own_more parents past legal c (Lock x c found) (A.Lock x found) refl h.0 (permitted_lock parents tree past legal c x found h.2) (part_of-lock c x found past);
  apart = (nobody_holds parents past legal x h.1, legal.apart);
  in_turn = (h.0, legal.in_turn);
}
rules_keep parents tree past legal (Free x c left) h = record {
  obeys = own_more parents past legal c (Free x c left) (A.Free x left) refl h.0 (holder-held parents past legal c x h.1) (part_of-free c x left past);
  apart = legal.apart;
  in_turn = (h.0, legal.in_turn);
}
rules_keep parents tree past legal (Done c) h = record {
  obeys = own_more parents past legal c (Done c) A.End refl h.0 (λ x. elim (cases_Bool (held (part_of c past) x)) [ inl l ↦ absurd (h.1 x (held-holder parents past legal c x l)) | inr free ↦ free ]) (part_of-done c past);
  apart = legal.apart;
  in_turn = (h.0, legal.in_turn);
}

-- ---- the call that was the last to lock a node under its parent

-- at a permitted lock, the call holds the node's parent exactly if the lock isn't its first
pub under_next : (parents : List ℕ) → IsTree parents → (past : List Event) → IsLegalHistory parents past → (c x : ℕ) (found : Record) → Permitted parents (part_of c past) (A.Lock x found)
    → is_call (holder_of past (parent parents x)) c ≡ locked_any (part_of c past)
under_next parents tree past legal c x found p = elim (cases_Bool (locked_any (part_of c past))) [
  | inl some ↦ some-is_call (holder_of past (parent parents x)) c (lock_permitted parents tree past legal c x found p some).1 ∙ sym some
  | inr none ↦ elim (cases_Bool (is_call (holder_of past (parent parents x)) c)) [
    | inl t ↦
        let h = holder-held parents past legal c (parent parents x) (is_call-some (holder_of past (parent parents x)) c t) in
        absurd (both_ways (locked_any (part_of c past)) none (locked-any (part_of c past) (parent parents x) (held-locked (part_of c past) (parent parents x) h)))
    | inr f ↦ f ∙ sym none
  ]
]

pub under_after : (parents : List ℕ) → IsTree parents → (past : List Event) (c x : ℕ) (found : Record) → IsLegalHistory parents (Lock x c found ∷ past) → (y : ℕ)
    → under_of parents (Lock x c found ∷ past) y ≡ (if (x == y) && locked_any (part_of c past) then Some c else under_of parents past y)
under_after parents tree past c x found legal y =
    let q = part_of-lock c x found past in
    let mine : Permitted parents (part_of c past) (A.Lock x found) × (has_ended (part_of c past) ≡ false) × EachPermitted parents (part_of c past) = rw q at (legal.obeys c) in
    let n = under_next parents tree past (legal_before parents (Lock x c found) past legal) c x found mine.0 in
    elim (cases_Bool (x == y)) [
      | inl same ↦
          let n' : is_call (holder_of past (parent parents y)) c ≡ locked_any (part_of c past) = subst (λ z. is_call (holder_of past (parent parents z)) c ≡ locked_any (part_of c past)) (eqb-true x y same) n in
          rw same (ap (λ b. if b then Some c else under_of parents past y) n')
      | inr other ↦ rw other refl
    ]

-- a call's first lock doesn't change the list of last lockers
pub AreUnder-first : (parents : List ℕ) → IsTree parents → (under : List (Option ℕ)) (past : List Event) (c x : ℕ) (found : Record) → IsLegalHistory parents (Lock x c found ∷ past) → locked_any (part_of c past) ≡ false
    → AreUnder parents under past → AreUnder parents under (Lock x c found ∷ past)
AreUnder-first parents tree under past c x found legal none are y lt =
    let u = under_after parents tree past c x found legal y in
    are y lt ∙ sym (u ∙ elim (cases_Bool (x == y)) [ inl q ↦ rw (q, none) refl | inr q ↦ rw q refl ])

-- a later lock sets the entry of its node
pub AreUnder-more : (parents : List ℕ) → IsTree parents → (under : List (Option ℕ)) (past : List Event) (c x : ℕ) (found : Record) → IsLegalHistory parents (Lock x c found ∷ past) → locked_any (part_of c past) ≡ true
    → AreUnder parents under past → AreUnder parents (set under x (Some c)) (Lock x c found ∷ past)
AreUnder-more parents tree under past c x found legal some are y lt =
    let u = under_after parents tree past c x found legal y in
    let size = length-set under x (Some c) in
    let inside : y < length under = omega (arith, lt, size) in
    elim (cases_eq x y) [
      | inl same ↦
          let q = eq-eqb x y same in
          let here : x < length under = omega (arith, inside, same) in
          ap (λ z. get_or (set under x (Some c)) z None) (sym same) ∙ get_or-set_same under x (Some c) None here ∙ sym (u ∙ (rw (q, some) refl))
      | inr other ↦
          let q = ne_eqb x y other in
          get_or-set_other under x y (Some c) None (λ w. other (sym w)) ∙ are y inside ∙ sym (u ∙ (rw q refl))
    ]

-- ---- a call that holds nothing

pub none-even : (parents : List ℕ) (past : List Event) → IsLegalHistory parents past → (c : ℕ) → ((x : ℕ) → holder_of past x ≢ Some c) → lock_count (part_of c past) ≡ free_count (part_of c past)
none-even parents past legal c none =
    none_held-counts parents (part_of c past) (legal.obeys c)
    (λ x. elim (cases_Bool (held (part_of c past) x)) [ inl h ↦ absurd (none x (held-holder parents past legal c x h)) | inr free ↦ free ])

pub even-none : (parents : List ℕ) (past : List Event) → IsLegalHistory parents past → (c : ℕ) → lock_count (part_of c past) ≡ free_count (part_of c past) → (x : ℕ) → holder_of past x ≢ Some c
even-none parents past legal c even x = λ h. both_ways (held (part_of c past) x) (counts-none_held parents (part_of c past) (legal.obeys c) even x) (holder-held parents past legal c x h)
