-- Steps from a node up to the root, and the nodes strictly above a node.
use Rattle.std.proofs.Common.{◌≢◌, ◌==◌, ◌⊎◌, true, false, sym, ◌∙◌, get_or, ◌≡◌, ℕ, zero, suc, ◌<◌, ◌≤◌, List, [], ◌∷◌, length, refl, ap, subst, inl, inr, arith}
use Rattle.std.proofs.lemmas.Bool.{cases_Bool, cases_lt, both_ways, eqb-true, eq-eqb}
use Rattle.std.specs.Prelude.{Contains}
use Rattle.std.proofs.lemmas.Grind.{common_steps}
use Rattle.tl_tree.specs.Shape.{parent, IsTree, Above, itself, below}
use Rattle.tl_tree_locking.specs.Ancestors.{climb, nodes_above}
use Rattle.tl_tree_locking.specs.Order.{stands}

pub parent-lower : (parents : List ℕ) → IsTree parents → (x : ℕ) → 0 < x → parent parents x < x
parent-lower parents tree x pos = elim (cases_lt x (length parents)) [ inl h ↦ tree.lower x pos h | inr h ↦ grind (arith, common_steps) ]

-- a property of the root that each node inherits from its parent is true of each node up to n
climb_to : (parents : List ℕ) → IsTree parents → (P : ℕ → Type 0) → P 0 → ((x : ℕ) → 0 < x → P (parent parents x) → P x) → (n x : ℕ) → x ≤ n → P x
climb_to parents tree P root step zero x le = let e : 0 ≡ x = omega arith in subst P e root
climb_to parents tree P root step (suc n) zero le = root
climb_to parents tree P root step (suc n) (suc x) le =
    let pos : 0 < suc x = omega arith in
    step (suc x) pos (climb_to parents tree P root step n (parent parents (suc x)) (omega (arith, parent-lower parents tree (suc x) pos)))

-- a property of the root that each node inherits from its parent is true of each node
pub by_climbing : (parents : List ℕ) → IsTree parents → (P : ℕ → Type 0) → P 0 → ((x : ℕ) → 0 < x → P (parent parents x) → P x) → (x : ℕ) → P x
by_climbing parents tree P root step x = climb_to parents tree P root step x x (omega arith)

climb-enough : (parents : List ℕ) → IsTree parents → (n m x : ℕ) → x ≤ n → x ≤ m → climb parents n x ≡ climb parents m x
unfolding climb
climb-enough parents tree zero zero x p q = refl
climb-enough parents tree zero (suc m) x p q = let e : x ≡ 0 = omega arith in rw e refl
climb-enough parents tree (suc n) zero x p q = let e : x ≡ 0 = omega arith in rw e refl
climb-enough parents tree (suc n) (suc m) zero p q = refl
climb-enough parents tree (suc n) (suc m) (suc x) p q =
    let low = parent-lower parents tree (suc x) (omega arith) in
    ap (λ ys. parent parents (suc x) ∷ ys) (climb-enough parents tree n m (parent parents (suc x)) (omega arith) (omega arith))

pub nodes_above-root : (parents : List ℕ) → nodes_above parents 0 ≡ []
unfolding climb
nodes_above-root parents = refl

pub nodes_above-step : (parents : List ℕ) → IsTree parents → (x : ℕ) → 0 < x → nodes_above parents x ≡ parent parents x ∷ nodes_above parents (parent parents x)
unfolding climb
nodes_above-step parents tree zero pos = absurd (omega arith)
nodes_above-step parents tree (suc x) pos =
    let low = parent-lower parents tree (suc x) pos in
    ap (λ ys. parent parents (suc x) ∷ ys) (climb-enough parents tree x (parent parents (suc x)) (parent parents (suc x)) (omega arith) (omega arith))

-- ---- the list of the nodes strictly above a node, and the relation

-- a node that occurs in a list is an element of it
stands-contains : (y : ℕ) (ys : List ℕ) → stands y ys ≡ true → Contains ys y
stands-contains y [] h = absurd (both_ways false refl h)
stands-contains y (z ∷ zs) h = elim (cases_Bool (z == y)) [
  | inl same ↦ (0, omega arith, eqb-true z y same)
  | inr other ↦ let r = stands-contains y zs (rw other at h) in let lt = r.1 in (suc r.0, omega arith, r.2)
]

contains-stands : (y : ℕ) (ys : List ℕ) (k : ℕ) → k < length ys → get_or ys k y ≡ y → stands y ys ≡ true
contains-stands y [] k lt e = absurd (omega arith)
contains-stands y (z ∷ zs) zero lt e = let q = eq-eqb z y e in rw q refl
contains-stands y (z ∷ zs) (suc k) lt e = let r = contains-stands y zs k (omega arith) e in grind (arith, r)

-- a node in the list has a lower number than x and is above x
pub listed_above : (parents : List ℕ) → IsTree parents → (y x : ℕ) → stands y (nodes_above parents x) ≡ true → (y < x) × Above parents y x
listed_above parents tree y =
    by_climbing parents tree (λ x. stands y (nodes_above parents x) ≡ true → (y < x) × Above parents y x)
    (λ h. let e : stands y (nodes_above parents 0) ≡ false = rw nodes_above-root refl in absurd (both_ways (stands y (nodes_above parents 0)) e h))
    (λ x pos ih h.
    let q : stands y (nodes_above parents x) ≡ stands y (parent parents x ∷ nodes_above parents (parent parents x)) = ap (stands y) (nodes_above-step parents tree x pos) in
    let g : stands y (parent parents x ∷ nodes_above parents (parent parents x)) ≡ true = sym q ∙ h in
    let low = parent-lower parents tree x pos in
    elim (cases_Bool (parent parents x == y)) [
      | inl same ↦
          let e : parent parents x ≡ y = eqb-true (parent parents x) y same in
          (omega arith, below (subst (λ z. Above parents z (parent parents x)) e itself))
      | inr other ↦ let r = ih (rw other at g) in let lt = r.0 in (omega arith, below r.1)
    ])

-- a node above x is x or is in the list
above_listed : (parents : List ℕ) → IsTree parents → (y x : ℕ) → Above parents y x → (y ≡ x) ⊎ (stands y (nodes_above parents x) ≡ true)
above_listed parents tree y x itself = inl refl
above_listed parents tree y x (below h) = elim (cases_lt 0 x) [
  | inl pos ↦ inr (elim (above_listed parents tree y (parent parents x) h) [
    | inl same ↦ let q = eq-eqb (parent parents x) y (sym same) in rw (nodes_above-step parents tree x pos) (rw q refl)
    | inr more ↦ rw (nodes_above-step parents tree x pos) (grind (arith, more))
  ])
  | inr none ↦
      let root : x ≡ 0 = omega arith in
      let up : parent parents x ≡ 0 = ap (parent parents) root ∙ tree.root in
      elim (above_listed parents tree y (parent parents x) h) [
        | inl same ↦ inl (same ∙ up ∙ sym root)
        | inr more ↦
            let e : stands y (nodes_above parents (parent parents x)) ≡ false = ap (λ z. stands y (nodes_above parents z)) up ∙ (rw nodes_above-root refl) in
            absurd (both_ways (stands y (nodes_above parents (parent parents x))) e more)
      ]
]

pub nodes_above-above : (parents : List ℕ) → IsTree parents → (x y : ℕ) → Contains (nodes_above parents x) y → Above parents y x × (y ≢ x)
nodes_above-above parents tree x y h =
    let l = listed_above parents tree y x (contains-stands y (nodes_above parents x) h.0 h.1 h.2) in
    let lt = l.0 in
    (l.1, λ e. omega arith)

pub above-nodes_above : (parents : List ℕ) → IsTree parents → (x y : ℕ) → Above parents y x → y ≢ x → Contains (nodes_above parents x) y
above-nodes_above parents tree x y h other = elim (above_listed parents tree y x h) [
  | inl same ↦ absurd (other same)
  | inr more ↦ stands-contains y (nodes_above parents x) more
]
