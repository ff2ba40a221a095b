-- How many locks and frees a call can have done.
use Rattle.std.proofs.Common.{◌≡◌, ℕ, ◌+◌, ◌≤◌, ◌<◌, zero, suc, ◌∙◌, ◌==◌, ◌||◌, Bool, true, false, List, [], ◌∷◌, length, refl, sym, ap, subst, inl, inr, arith}
use Rattle.std.specs.Prelude.{if◌then◌else◌}
use Rattle.std.proofs.lemmas.Bool.{cases_Bool, cases_eq, both_ways, eqb-true, ne_eqb, eq-eqb}
use Rattle.tl_tree.specs.Records.{Record}
use Rattle.tl_tree_locking.specs.declared.action.Action.{Action}
use Rattle.tl_tree_locking.specs.declared.action.Action.TheVariants as A
use Rattle.tl_tree_locking.specs.Actions.{locks, locked, held, lock_count, free_count, EachPermitted}
use Rattle.tl_tree_locking.specs.History.{part_of}
use Rattle.tl_tree_locking.specs.World.{World, IsSound}
use Rattle.tl_tree_locking.proofs.WorldSteps.{part_inside}
use Rattle.tl_tree_locking.proofs.NoStandstill.{sound_history}

abbrev has : ℕ → List ℕ → Bool
has x [] = false
has x (y ∷ ys) = (y == x) || has x ys

abbrev without : ℕ → List ℕ → List ℕ
without x [] = []
without x (y ∷ ys) = if y == x then ys else y ∷ without x ys

length-without : (x : ℕ) (ys : List ℕ) → has x ys ≡ true → length (without x ys) + 1 ≡ length ys
length-without x [] h = absurd (both_ways false refl h)
length-without x (y ∷ ys) h = elim (cases_Bool (y == x)) [
  | inl same ↦ rw same (omega arith)
  | inr other ↦ let i = length-without x ys (rw other at h) in rw other (omega arith)
]

has-without : (x z : ℕ) (ys : List ℕ) → (x == z) ≡ false → has z ys ≡ true → has z (without x ys) ≡ true
has-without x z [] ne h = h
has-without x z (y ∷ ys) ne h = elim (cases_Bool (y == x)) [
  | inl same ↦ let e : y ≡ x = eqb-true y x same in let q : (y == z) ≡ false = subst (λ w. (w == z) ≡ false) (sym e) ne in rw same (rw q at h)
  | inr other ↦ rw other (elim (cases_Bool (y == z)) [ inl here ↦ rw here refl | inr away ↦ rw away (has-without x z ys ne (rw away at h)) ])
]

-- the nodes that are still held
abbrev still : List Action → List ℕ
still [] = []
still (A.Lock x found ∷ done) = x ∷ still done
still (A.Free x left ∷ done) = without x (still done)
still (_ ∷ done) = still done

held-still : (done : List Action) (x : ℕ) → held done x ≡ true → has x (still done) ≡ true
held-still [] x h = h
held-still (A.Lock y found ∷ done) x h = let ih = held-still done x in grind (arith, h, ih)
held-still (A.Read y f n ∷ done) x h = held-still done x h
held-still (A.Write y f n ∷ done) x h = held-still done x h
held-still (A.Free y left ∷ done) x h = elim (cases_Bool (y == x)) [
  | inl same ↦ absurd (both_ways false refl (rw same at h))
  | inr other ↦ has-without y x (still done) other (held-still done x (rw other at h))
]
held-still (A.Emit n ∷ done) x h = held-still done x h
held-still (A.End ∷ done) x h = held-still done x h
held-still (A.Plain ∷ done) x h = held-still done x h

-- locks are as many as frees and nodes still held
frees_locks : (parents : List ℕ) (done : List Action) → EachPermitted parents done → free_count done + length (still done) ≡ lock_count done
frees_locks parents [] h = refl
frees_locks parents (A.Lock y found ∷ done) h = let i = frees_locks parents done h.2 in omega arith
frees_locks parents (A.Read y f n ∷ done) h = frees_locks parents done h.2
frees_locks parents (A.Write y f n ∷ done) h = frees_locks parents done h.2
frees_locks parents (A.Free y left ∷ done) h =
    let i = frees_locks parents done h.2 in
    let l = length-without y (still done) (held-still done y h.0) in omega arith
frees_locks parents (A.Emit n ∷ done) h = frees_locks parents done h.2
frees_locks parents (A.End ∷ done) h = frees_locks parents done h.2
frees_locks parents (A.Plain ∷ done) h = frees_locks parents done h.2

-- a call does at most as many frees as locks
pub frees_within : (parents : List ℕ) (done : List Action) → EachPermitted parents done → free_count done ≤ lock_count done
frees_within parents done h = let f = frees_locks parents done h in omega arith

-- ---- a call that frees as often as it locks holds nothing

without-has : (x z : ℕ) (ys : List ℕ) → has z (without x ys) ≡ true → has z ys ≡ true
without-has x z [] h = h
without-has x z (y ∷ ys) h = elim (cases_Bool (y == x)) [
  | inl same ↦ let g = rw same at h in grind (arith, g)
  | inr other ↦ let g = rw other at h in let i = without-has x z ys in grind (arith, g, i)
]

still-locked : (done : List Action) (x : ℕ) → has x (still done) ≡ true → locked done x ≡ true
still-locked [] x h = h
still-locked (A.Lock y found ∷ done) x h = let i = still-locked done x in grind (arith, h, i)
still-locked (A.Read y f n ∷ done) x h = still-locked done x h
still-locked (A.Write y f n ∷ done) x h = still-locked done x h
still-locked (A.Free y left ∷ done) x h = still-locked done x (without-has y x (still done) h)
still-locked (A.Emit n ∷ done) x h = still-locked done x h
still-locked (A.End ∷ done) x h = still-locked done x h
still-locked (A.Plain ∷ done) x h = still-locked done x h

-- no number occurs twice
abbrev Once : List ℕ → Type 0
Once [] = Unit {0}
Once (y ∷ ys) = (has y ys ≡ false) × Once ys

Once-without : (x : ℕ) (ys : List ℕ) → Once ys → Once (without x ys)
Once-without x [] h = tt
Once-without x (y ∷ ys) h = elim (cases_Bool (y == x)) [
  | inl same ↦ rw same h.1
  | inr other ↦ rw other (elim (cases_Bool (has y (without x ys))) [ inl l ↦ absurd (both_ways (has y ys) h.0 (without-has x y ys l)) | inr away ↦ away ], Once-without x ys h.1)
]

without-gone : (x : ℕ) (ys : List ℕ) → Once ys → has x (without x ys) ≡ false
without-gone x [] h = refl
without-gone x (y ∷ ys) h = elim (cases_Bool (y == x)) [
  | inl same ↦ rw same (subst (λ z. has z ys ≡ false) (eqb-true y x same) h.0)
  | inr other ↦ let i = without-gone x ys h.1 in rw other (grind (arith, other, i))
]

once_still : (parents : List ℕ) (done : List Action) → EachPermitted parents done → Once (still done)
once_still parents [] h = tt
once_still parents (A.Lock y found ∷ done) h =
    (elim (cases_Bool (has y (still done))) [ inl l ↦ absurd (both_ways (locked done y) h.0.0 (still-locked done y l)) | inr away ↦ away ], once_still parents done h.2)
once_still parents (A.Read y f n ∷ done) h = once_still parents done h.2
once_still parents (A.Write y f n ∷ done) h = once_still parents done h.2
once_still parents (A.Free y left ∷ done) h = Once-without y (still done) (once_still parents done h.2)
once_still parents (A.Emit n ∷ done) h = once_still parents done h.2
once_still parents (A.End ∷ done) h = once_still parents done h.2
once_still parents (A.Plain ∷ done) h = once_still parents done h.2

still-held : (parents : List ℕ) (done : List Action) → EachPermitted parents done → (x : ℕ) → has x (still done) ≡ true → held done x ≡ true
still-held parents [] h x l = l
still-held parents (A.Lock y found ∷ done) h x l = let i = still-held parents done h.2 x in grind (arith, l, i)
still-held parents (A.Read y f n ∷ done) h x l = still-held parents done h.2 x l
still-held parents (A.Write y f n ∷ done) h x l = still-held parents done h.2 x l
still-held parents (A.Free y left ∷ done) h x l =
    let i = still-held parents done h.2 x (without-has y x (still done) l) in
    elim (cases_Bool (y == x)) [
      | inl same ↦
          let gone = subst (λ z. has z (without y (still done)) ≡ false) (eqb-true y x same) (without-gone y (still done) (once_still parents done h.2)) in
          absurd (both_ways (has x (without y (still done))) gone l)
      | inr other ↦ rw other i
    ]
still-held parents (A.Emit n ∷ done) h x l = still-held parents done h.2 x l
still-held parents (A.End ∷ done) h x l = still-held parents done h.2 x l
still-held parents (A.Plain ∷ done) h x l = still-held parents done h.2 x l

pub counts-none_held : (parents : List ℕ) (done : List Action) → EachPermitted parents done → lock_count done ≡ free_count done → (x : ℕ) → held done x ≡ false
counts-none_held parents done h even x = elim (cases_Bool (held done x)) [
  | inl l ↦
      let f = frees_locks parents done h in
      let one = length-without x (still done) (held-still done x l) in
      absurd (omega (arith, f, one, even))
  | inr free ↦ free
]

pub none_held-counts : (parents : List ℕ) (done : List Action) → EachPermitted parents done → ((x : ℕ) → held done x ≡ false) → lock_count done ≡ free_count done
none_held-counts parents done h none =
    let f = frees_locks parents done h in
    let e = empty (still done) (λ x l. both_ways (held done x) (none x) (still-held parents done h x l)) in
    omega (arith, f, e)
  where
    empty : (ys : List ℕ) → ((x : ℕ) → has x ys ≡ true → ⊥) → length ys ≡ 0
    empty [] out = refl
    empty (y ∷ ys) out = let self = eq-eqb y y refl in absurd (out y (grind (arith, self)))

-- ---- a call locks each node at most once

-- how many of the first n nodes were locked
abbrev nodes_locked : ℕ → List Action → ℕ
nodes_locked zero done = 0
nodes_locked (suc n) done = (if locked done n then suc (nodes_locked n done) else nodes_locked n done)

nodes_locked_most : (n : ℕ) (done : List Action) → nodes_locked n done ≤ n
nodes_locked_most zero done = omega arith
nodes_locked_most (suc n) done = let i = nodes_locked_most n done in elim (cases_Bool (locked done n)) [ inl h ↦ rw h (omega arith) | inr h ↦ rw h (omega arith) ]

-- an action that locks none of the first n nodes doesn't change the count
nodes_locked-same : (n : ℕ) (a : Action) (done : List Action) → ((x : ℕ) → x < n → locks a x ≡ false) → nodes_locked n (a ∷ done) ≡ nodes_locked n done
nodes_locked-same zero a done h = refl
nodes_locked-same (suc n) a done h =
    let i = nodes_locked-same n a done (λ x lt. h x (omega arith)) in
    let q = h n (omega arith) in
    rw q (ap (λ m. if locked done n then suc m else m) i)

-- the first lock of one of them adds one
nodes_locked-more : (n x : ℕ) (found : Record) (done : List Action) → x < n → locked done x ≡ false → nodes_locked n (A.Lock x found ∷ done) ≡ suc (nodes_locked n done)
nodes_locked-more zero x found done lt fresh = absurd (omega arith)
nodes_locked-more (suc n) x found done lt fresh = elim (cases_eq x n) [
  | inl same ↦
      let q = eq-eqb x n same in
      let f : locked done n ≡ false = subst (λ z. locked done z ≡ false) same fresh in
      rw (q, f) (ap suc (nodes_locked-same n (A.Lock x found) done (λ z below. ne_eqb x z (λ e. omega arith))))
  | inr other ↦
      let q = ne_eqb x n other in
      let i = nodes_locked-more n x found done (omega arith) fresh in
      rw q (elim (cases_Bool (locked done n)) [ inl h ↦ rw h (ap suc i) | inr h ↦ rw h i ])
]

locks_counted : (parents : List ℕ) (n : ℕ) (done : List Action) → EachPermitted parents done → ((x : ℕ) → locked done x ≡ true → x < n) → lock_count done ≡ nodes_locked n done
locks_counted parents n [] h inside = none n
  where
    none : (n : ℕ) → 0 ≡ nodes_locked n []
    none zero = refl
    none (suc n) = none n
locks_counted parents n (A.Lock y found ∷ done) h inside =
    let self = eq-eqb y y refl in
    let i = locks_counted parents n done h.2 (λ x l. inside x (grind (arith, l))) in
    let m = nodes_locked-more n y found done (inside y (grind (arith, self))) h.0.0 in
    omega arith
locks_counted parents n (A.Read y f v ∷ done) h inside = locks_counted parents n done h.2 inside ∙ sym (nodes_locked-same n (A.Read y f v) done (λ x lt. refl))
locks_counted parents n (A.Write y f v ∷ done) h inside = locks_counted parents n done h.2 inside ∙ sym (nodes_locked-same n (A.Write y f v) done (λ x lt. refl))
locks_counted parents n (A.Free y left ∷ done) h inside = locks_counted parents n done h.2 inside ∙ sym (nodes_locked-same n (A.Free y left) done (λ x lt. refl))
locks_counted parents n (A.Emit v ∷ done) h inside = locks_counted parents n done h.2 inside ∙ sym (nodes_locked-same n (A.Emit v) done (λ x lt. refl))
locks_counted parents n (A.End ∷ done) h inside = locks_counted parents n done h.2 inside ∙ sym (nodes_locked-same n A.End done (λ x lt. refl))
locks_counted parents n (A.Plain ∷ done) h inside = locks_counted parents n done h.2 inside ∙ sym (nodes_locked-same n A.Plain done (λ x lt. refl))

-- a call that locks only the first n nodes does at most n locks
pub locks_within : (parents : List ℕ) (n : ℕ) (done : List Action) → EachPermitted parents done → ((x : ℕ) → locked done x ≡ true → x < n) → lock_count done ≤ n
locks_within parents n done h inside = let e = locks_counted parents n done h inside in let m = nodes_locked_most n done in omega arith

-- a call of a sound world has locked each node at most once
pub part_locks_within : (w : World) → IsSound w → (c : ℕ) → lock_count (part_of c w.past) ≤ length w.parents
part_locks_within w sound c = locks_within w.parents (length w.parents) (part_of c w.past) ((sound_history w sound).obeys c) (part_inside w sound c)
