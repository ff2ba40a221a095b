-- Which nodes a call may still lock, depending on its actions.
use Rattle.std.proofs.Common.{◌≢◌, ◌≡◌, ℕ, zero, suc, ◌<◌, ◌≤◌, ◌||◌, Bool, true, false, List, [], ◌∷◌, refl, sym, ap, subst, inl, inr, arith}
use Rattle.std.specs.Prelude.{if◌then◌else◌}
use Rattle.std.proofs.lemmas.Bool.{cases_Bool, cases_eq, both_ways, eq-eqb}
use Rattle.std.proofs.lemmas.Bool.Decides.{nat_tests}
use Rattle.tl_tree.specs.Records.{Record}
use Rattle.tl_tree.specs.Shape.{parent, IsTree, Above}
use Rattle.tl_tree_locking.specs.declared.action.Action.{Action}
use Rattle.tl_tree_locking.specs.declared.action.Action.TheVariants.{Plain, Lock, Read, Write, Free, Emit, End}
use Rattle.tl_tree_locking.specs.Ancestors.{nodes_above}
use Rattle.tl_tree_locking.specs.Actions.{locks, is_lock, locked, held, locked_any, EachPermitted, holds_first, holds_some, may_come}
use Rattle.tl_tree_locking.specs.Order.{stands}
use Rattle.tl_tree_locking.proofs.Ancestors.{parent-lower, by_climbing, nodes_above-root, nodes_above-step, listed_above}

-- the call holds the nearest node strictly above x that it has locked
abbrev pub comes : List ℕ → List Action → ℕ → Bool
comes parents done x = holds_first done (nodes_above parents x)

pub comes-root : (parents : List ℕ) (done : List Action) → comes parents done 0 ≡ false
comes-root parents done = rw nodes_above-root refl

pub comes-step : (parents : List ℕ) → IsTree parents → (done : List Action) (x : ℕ) → 0 < x
    → comes parents done x ≡ (if locked done (parent parents x) then held done (parent parents x) else comes parents done (parent parents x))
comes-step parents tree done x pos = ap (holds_first done) (nodes_above-step parents tree x pos)

bool_shrinks : (a b c : Bool) → (b ≡ true → c ≡ true) → (a || b) ≡ true → (a || c) ≡ true
bool_shrinks a b c h e = grind arith

pub held-locked : (done : List Action) (x : ℕ) → held done x ≡ true → locked done x ≡ true
held-locked [] x h = h
held-locked (a ∷ done) x h = let ih = held-locked done x in grind (arith, ih)

lock-any : (a : Action) (x : ℕ) → locks a x ≡ true → is_lock a ≡ true
lock-any (Lock y found) x h = refl
lock-any (Read y field n) x h = h
lock-any (Write y field n) x h = h
lock-any (Free y left) x h = h
lock-any (Emit n) x h = h
lock-any End x h = h
lock-any Plain x h = h

pub locked-any : (done : List Action) (x : ℕ) → locked done x ≡ true → locked_any done ≡ true
locked-any [] x h = h
locked-any (a ∷ done) x h = grind (arith, locked-any done x, lock-any a x)

lock_not-any : (a : Action) (x : ℕ) → is_lock a ≡ false → locks a x ≡ false
lock_not-any a x h = grind (arith, lock-any a x, h)

-- an action that isn't a lock doesn't add nodes y with this property
pub comes_shrinks : (parents : List ℕ) → IsTree parents → (a : Action) (done : List Action) → is_lock a ≡ false → (y : ℕ)
    → comes parents (a ∷ done) y ≡ true → comes parents done y ≡ true
comes_shrinks parents tree a done plain =
    by_climbing parents tree (λ y. comes parents (a ∷ done) y ≡ true → comes parents done y ≡ true)
    (λ h. let e = comes-root parents (a ∷ done) in grind (arith, e))
    (λ y pos ih h.
    let e1 = comes-step parents tree (a ∷ done) y pos in
    let e2 = comes-step parents tree done y pos in
    let l = lock_not-any a (parent parents y) plain in
    grind (arith, e1, e2, ih, l))

-- neither does a lock whose node's parent is held
pub comes_child : (parents : List ℕ) → IsTree parents → (done : List Action) (x : ℕ) (found : Record) → 0 < x → locked done x ≡ false → held done (parent parents x) ≡ true
    → (y : ℕ) → comes parents (Lock x found ∷ done) y ≡ true → comes parents done y ≡ true
comes_child parents tree done x found xpos fresh under =
    by_climbing parents tree (λ y. comes parents (Lock x found ∷ done) y ≡ true → comes parents done y ≡ true)
    (λ h. let e = comes-root parents (Lock x found ∷ done) in grind (arith, e))
    (λ y pos ih h.
    let e1 = comes-step parents tree (Lock x found ∷ done) y pos in
    let e2 = comes-step parents tree done y pos in
    let e3 = comes-step parents tree done x xpos in
    let l = held-locked done (parent parents x) in
    elim (cases_eq x (parent parents y)) [ inl same ↦ let e4 : comes parents done (parent parents y) ≡ comes parents done x = ap (comes parents done) (sym same) in let e5 : locked done (parent parents y) ≡ locked done x = ap (locked done) (sym same) in grind (arith, e2, e3, e4, e5, l, fresh, under) | inr other ↦ grind (arith, nat_tests, e1, e2, ih) ])

-- if the call holds the parent of an unlocked node, that node isn't the root
pub child_pos : (parents : List ℕ) → IsTree parents → (done : List Action) (x : ℕ) → locked done x ≡ false → held done (parent parents x) ≡ true → 0 < x
child_pos parents tree done zero fresh under = let l = held-locked done 0 (rw tree.root at under) in absurd (both_ways (locked done 0) fresh l)
child_pos parents tree done (suc x) fresh under = omega arith

pub none-locked : (done : List Action) (x : ℕ) → locked_any done ≡ false → locked done x ≡ false
none-locked done x none = grind (arith, locked-any done x, none)

none_comes : (parents : List ℕ) → IsTree parents → (done : List Action) → locked_any done ≡ false → (y : ℕ) → comes parents done y ≡ false
none_comes parents tree done none =
    by_climbing parents tree (λ y. comes parents done y ≡ false) (comes-root parents done)
    (λ y pos ih. let e = comes-step parents tree done y pos in let l = none-locked done (parent parents y) none in grind (arith, e, l, ih))

-- after its first lock, of x, a call has this property for no node with a number up to x
first_not_up : (parents : List ℕ) → IsTree parents → (done : List Action) (x : ℕ) (found : Record) → locked_any done ≡ false
    → (y : ℕ) → y ≤ x → comes parents (Lock x found ∷ done) y ≡ false
first_not_up parents tree done x found none =
    by_climbing parents tree (λ y. y ≤ x → comes parents (Lock x found ∷ done) y ≡ false) (λ _. comes-root parents (Lock x found ∷ done))
    (λ y pos ih le.
    let e = comes-step parents tree (Lock x found ∷ done) y pos in
    let l = none-locked done (parent parents y) none in
    let low = parent-lower parents tree y pos in
    let i : comes parents (Lock x found ∷ done) (parent parents y) ≡ false = ih (omega arith) in
    grind (arith, nat_tests, e, l, i, low, le))

connected_first : (parents : List ℕ) → IsTree parents → (done : List Action) (x : ℕ) (found : Record) → locked_any done ≡ false → (z : ℕ) → 0 < z
    → locked (Lock x found ∷ done) z ≡ true → comes parents (Lock x found ∷ done) (parent parents z) ≡ true → locked (Lock x found ∷ done) (parent parents z) ≡ true
connected_first parents tree done x found none z pos lz cz =
    let low = parent-lower parents tree z pos in
    let l = none-locked done z none in
    let same : x ≡ z = grind (arith, nat_tests, lz, l) in
    let f = first_not_up parents tree done x found none (parent parents z) (omega arith) in
    absurd (both_ways (comes parents (Lock x found ∷ done) (parent parents z)) f cz)

connected_child : (parents : List ℕ) → IsTree parents → (done : List Action) (x : ℕ) (found : Record) → locked done x ≡ false → held done (parent parents x) ≡ true → (z : ℕ)
    → (locked done z ≡ true → comes parents done (parent parents z) ≡ true → locked done (parent parents z) ≡ true)
    → locked (Lock x found ∷ done) z ≡ true → comes parents (Lock x found ∷ done) (parent parents z) ≡ true → locked (Lock x found ∷ done) (parent parents z) ≡ true
connected_child parents tree done x found fresh under z ih lz cz =
    let c = comes_child parents tree done x found (child_pos parents tree done x fresh under) fresh under (parent parents z) cz in
    let l = held-locked done (parent parents x) under in
    elim (cases_eq x z) [
      | inl same ↦ let e : locked done (parent parents x) ≡ locked done (parent parents z) = ap (λ y. locked done (parent parents y)) same in grind (arith, e, l)
      | inr other ↦ grind (arith, nat_tests, lz, ih, c)
    ]

-- if a call that has locked z has this property for z's parent, it has locked that parent
pub connected : (parents : List ℕ) → IsTree parents → (done : List Action) → EachPermitted parents done → (z : ℕ) → 0 < z
    → locked done z ≡ true → comes parents done (parent parents z) ≡ true → locked done (parent parents z) ≡ true
connected parents tree [] obeys z pos lz cz = lz
connected parents tree (Lock x found ∷ done) obeys z pos lz cz =
    elim (cases_Bool (locked_any done)) [
      | inl some ↦ connected_child parents tree done x found obeys.0.0 (obeys.0.1 some) z (connected parents tree done obeys.2 z pos) lz cz
      | inr none ↦ connected_first parents tree done x found none z pos lz cz
    ]
connected parents tree (Read y field n ∷ done) obeys z pos lz cz = connected parents tree done obeys.2 z pos lz (comes_shrinks parents tree (Read y field n) done refl (parent parents z) cz)
connected parents tree (Write y field n ∷ done) obeys z pos lz cz = connected parents tree done obeys.2 z pos lz (comes_shrinks parents tree (Write y field n) done refl (parent parents z) cz)
connected parents tree (Free y left ∷ done) obeys z pos lz cz = connected parents tree done obeys.2 z pos lz (comes_shrinks parents tree (Free y left) done refl (parent parents z) cz)
connected parents tree (Emit n ∷ done) obeys z pos lz cz = connected parents tree done obeys.2 z pos lz (comes_shrinks parents tree (Emit n) done refl (parent parents z) cz)
connected parents tree (End ∷ done) obeys z pos lz cz = connected parents tree done obeys.2 z pos lz (comes_shrinks parents tree End done refl (parent parents z) cz)
connected parents tree (Plain ∷ done) obeys z pos lz cz = connected parents tree done obeys.2 z pos lz (comes_shrinks parents tree Plain done refl (parent parents z) cz)

pub may_parts : (parents : List ℕ) (done : List Action) (x : ℕ) → may_come parents done x ≡ true → (locked done x ≡ false) × (comes parents done x ≡ true)
may_parts parents done x h = grind (arith, h)

pub may_from : (parents : List ℕ) (done : List Action) (x : ℕ) → locked done x ≡ false → comes parents done x ≡ true → may_come parents done x ≡ true
may_from parents done x l c = grind (arith, l, c)

-- a call that may still lock the parent of y may still lock y
pub may_down : (parents : List ℕ) → IsTree parents → (done : List Action) → EachPermitted parents done → (y : ℕ) → 0 < y → may_come parents done (parent parents y) ≡ true → may_come parents done y ≡ true
may_down parents tree done obeys y pos h =
    let m = may_parts parents done (parent parents y) h in
    let e = comes-step parents tree done y pos in
    let c = connected parents tree done obeys y pos in
    grind (arith, e, c, m, may_from parents done y)

-- if a call's only lock is of x and it has this property for y, then every call that may still lock x may still lock y
pub may_below : (parents : List ℕ) → IsTree parents → (mine done : List Action) (x : ℕ) (found : Record) → locked_any mine ≡ false → EachPermitted parents done → may_come parents done x ≡ true
    → (y : ℕ) → comes parents (Lock x found ∷ mine) y ≡ true → may_come parents done y ≡ true
may_below parents tree mine done x found none obeys may =
    by_climbing parents tree (λ y. comes parents (Lock x found ∷ mine) y ≡ true → may_come parents done y ≡ true)
    (λ h. absurd (both_ways (comes parents (Lock x found ∷ mine) 0) (comes-root parents (Lock x found ∷ mine)) h))
    (λ y pos ih h.
    let e = comes-step parents tree (Lock x found ∷ mine) y pos in
    let l = none-locked mine (parent parents y) none in
    let d = may_down parents tree done obeys y pos in
    elim (cases_eq x (parent parents y)) [
      | inl same ↦ d (subst (λ z. may_come parents done z ≡ true) same may)
      | inr other ↦ let c : comes parents (Lock x found ∷ mine) (parent parents y) ≡ true = grind (arith, nat_tests, e, l, h) in d (ih c)
    ])

-- a call that locks x while holding its parent could still lock x before
pub child_may : (parents : List ℕ) → IsTree parents → (done : List Action) (x : ℕ) → locked done x ≡ false → held done (parent parents x) ≡ true → may_come parents done x ≡ true
child_may parents tree done x fresh under =
    let e = comes-step parents tree done x (child_pos parents tree done x fresh under) in
    let l = held-locked done (parent parents x) under in
    may_from parents done x fresh (grind (arith, e, l, under))

-- a call that may still lock x and doesn't hold x's parent may still lock that parent
pub may_up : (parents : List ℕ) → IsTree parents → (done : List Action) (x : ℕ) → 0 < x → may_come parents done x ≡ true → held done (parent parents x) ≡ false → may_come parents done (parent parents x) ≡ true
may_up parents tree done x pos may free =
    let e = comes-step parents tree done x pos in
    let m = may_parts parents done x may in
    grind (arith, e, m, free, may_from parents done (parent parents x))

-- an action that isn't a lock doesn't add nodes that the call may still lock
pub may_shrinks : (parents : List ℕ) → IsTree parents → (a : Action) (done : List Action) → is_lock a ≡ false → (y : ℕ) → may_come parents (a ∷ done) y ≡ true → may_come parents done y ≡ true
may_shrinks parents tree a done plain y may =
    let m = may_parts parents (a ∷ done) y may in
    let c = comes_shrinks parents tree a done plain y m.1 in
    let l = lock_not-any a y plain in
    may_from parents done y (grind (arith, m, l)) c

pub may_child_shrinks : (parents : List ℕ) → IsTree parents → (done : List Action) (x : ℕ) (found : Record) → locked done x ≡ false → held done (parent parents x) ≡ true
    → (y : ℕ) → may_come parents (Lock x found ∷ done) y ≡ true → may_come parents done y ≡ true
may_child_shrinks parents tree done x found fresh under y may =
    let m = may_parts parents (Lock x found ∷ done) y may in
    let c = comes_child parents tree done x found (child_pos parents tree done x fresh under) fresh under y m.1 in
    may_from parents done y (grind (arith, m)) c

-- a call that may still lock some node has locked a node
pub may_any : (parents : List ℕ) → IsTree parents → (done : List Action) (x : ℕ) → may_come parents done x ≡ true → locked_any done ≡ true
may_any parents tree done x may =
    let m = may_parts parents done x may in
    let n = λ (none : locked_any done ≡ false). none_comes parents tree done none x in
    grind (arith, m, n)

holds_first-some : (done : List Action) (ys : List ℕ) → holds_first done ys ≡ true → holds_some done ys ≡ true
holds_first-some done [] h = h
holds_first-some done (y ∷ ys) h = let ih = holds_first-some done ys in grind (arith, h, ih)

-- a call that may still lock x holds a node of the list of those strictly above x, so only the holders of these are relevant
pub may_holds : (parents : List ℕ) (done : List Action) (x : ℕ) → may_come parents done x ≡ true → holds_some done (nodes_above parents x) ≡ true
may_holds parents done x may = let m = may_parts parents done x may in holds_first-some done (nodes_above parents x) m.1

held_some : (done : List Action) (ys : List ℕ) → holds_some done ys ≡ true → (y : ℕ) × (stands y ys ≡ true) × (held done y ≡ true)
held_some done [] h = absurd (both_ways false refl h)
held_some done (y ∷ ys) h = elim (cases_Bool (held done y)) [
  | inl here ↦ let self = eq-eqb y y refl in (y, grind (arith, self), here)
  | inr away ↦ let r = held_some done ys (rw away at h) in let s = r.1 in (r.0, grind (arith, s), r.2)
]

-- a call that may still lock x holds a node strictly above x
pub may_come_holds : (parents : List ℕ) → IsTree parents → (done : List Action) (x : ℕ) → may_come parents done x ≡ true → (y : ℕ) × Above parents y x × (y ≢ x) × (held done y ≡ true)
may_come_holds parents tree done x may =
    let r = held_some done (nodes_above parents x) (may_holds parents done x may) in
    let l = listed_above parents tree r.0 x r.1 in
    let lt = l.0 in
    (r.0, l.1, λ e. omega arith, r.2)
