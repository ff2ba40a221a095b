-- The children of a node: their numbers, and what is below them.
use Rattle.std.proofs.Common.{◌≡◌, ◌≢◌, ℕ, zero, suc, ◌+◌, ◌<◌, ◌≤◌, List, [], ◌∷◌, length, get_or, Bool, true, false, refl, sym, subst, arith, ◌⊎◌, inl, inr}
use Rattle.std.specs.Prelude.{slice_index, nat_eq, cond, drop}
use Rattle.std.proofs.lemmas.Bool.{cases_lt, eqb-true, eqb-false}
use Rattle.tl_tree.specs.Shape.{parent, IsTree, IsKid, Above, itself, below, kids, kids_from}
use Rattle.tl_tree.proofs.Kids.{IsKid-kids}
use Rattle.tl_tree.proofs.Paths.{Above-le, Above-parent}

-- the children in a list from s on are s or later
kid_low : (ps : List ℕ) (s x n : ℕ) → n < length (kids_from ps s x) → s ≤ get_or (kids_from ps s x) n 0
kid_low [] s x n lt = absurd (omega arith)
kid_low (p ∷ ps) s x n lt = by (nat_eq p x) n lt (λ m less. kid_low ps (s + 1) x m less)
  where
    by : (b : Bool) (n : ℕ) → n < length (cond b (s ∷ kids_from ps (s + 1) x) (kids_from ps (s + 1) x)) → ((m : ℕ) → m < length (kids_from ps (s + 1) x) → s + 1 ≤ get_or (kids_from ps (s + 1) x) m 0) → s ≤ get_or (cond b (s ∷ kids_from ps (s + 1) x) (kids_from ps (s + 1) x)) n 0
    by true zero lt rest = omega arith
    by true (suc n) lt rest = let h = rest n (omega arith) in omega arith
    by false n lt rest = let h = rest n lt in omega arith

kid_rise : (ps : List ℕ) (s x m n : ℕ) → m < n → n < length (kids_from ps s x) → get_or (kids_from ps s x) m 0 < get_or (kids_from ps s x) n 0
kid_rise [] s x m n less lt = absurd (omega arith)
kid_rise (p ∷ ps) s x m n less lt = by (nat_eq p x) m n less lt (λ a b l k. kid_rise ps (s + 1) x a b l k)
  where
    by : (b : Bool) (m n : ℕ) → m < n → n < length (cond b (s ∷ kids_from ps (s + 1) x) (kids_from ps (s + 1) x))
        → ((a c : ℕ) → a < c → c < length (kids_from ps (s + 1) x) → get_or (kids_from ps (s + 1) x) a 0 < get_or (kids_from ps (s + 1) x) c 0)
        → get_or (cond b (s ∷ kids_from ps (s + 1) x) (kids_from ps (s + 1) x)) m 0 < get_or (cond b (s ∷ kids_from ps (s + 1) x) (kids_from ps (s + 1) x)) n 0
    by true m zero less lt rest = absurd (omega arith)
    by true zero (suc n) less lt rest = let h = kid_low ps (s + 1) x n (omega arith) in omega arith
    by true (suc m) (suc n) less lt rest = rest m n (omega arith) (omega arith)
    by false m n less lt rest = rest m n less lt

module _ (parents : List ℕ) (tree : IsTree parents) where
  abbrev pub kid : ℕ → ℕ → ℕ
  kid x n = slice_index (kids parents x) n

  pub is_kid : (x n : ℕ) → n < length (kids parents x) → IsKid parents x (kid x n)
  is_kid x n lt = IsKid-kids parents x n lt

  -- different children have different numbers
  pub same_number : (x m n : ℕ) → m < length (kids parents x) → n < length (kids parents x) → kid x m ≡ kid x n → m ≡ n
  same_number x m n a b e =
      elim (cases_lt m n) [
        | inl less ↦ let h = kid_rise (drop 1 parents) 1 x m n less b in absurd (omega arith)
        | inr le ↦
            elim (cases_lt n m) [
              | inl less ↦ let h = kid_rise (drop 1 parents) 1 x n m less a in absurd (omega arith)
              | inr ge ↦ omega arith
            ]
      ]

  pub kid_after : (x n : ℕ) → n < length (kids parents x) → x < kid x n
  kid_after x n lt =
      let k = is_kid x n lt in
      let below_parent = tree.lower (kid x n) k.below_root k.inside in
      let e = k.parent_is in
      omega arith

  pub above_kid : (a x n : ℕ) → n < length (kids parents x) → Above parents a x → Above parents a (kid x n)
  above_kid a x n lt above = below (subst (Above parents a) (sym (is_kid x n lt).parent_is) above)

  -- a node strictly above a child is above its parent
  pub above_parent : (a x n : ℕ) → n < length (kids parents x) → Above parents a (kid x n) → a ≢ kid x n → Above parents a x
  above_parent a x n lt above ne = subst (Above parents a) (is_kid x n lt).parent_is (Above-parent parents a (kid x n) (λ e. ne (sym e)) above)

  pub above_trans : (a b c : ℕ) → Above parents a b → Above parents b c → Above parents a c
  above_trans a b c f itself = f
  above_trans a b c f (below g) = below (above_trans a b (parent parents c) f g)

  -- of two nodes above the same node, one is above the other
  pub chain : (a b c : ℕ) → Above parents a c → Above parents b c → Above parents a b ⊎ Above parents b a
  chain a b c itself g = inr g
  chain a b c (below f) itself = inl (below f)
  chain a b c (below f) (below g) = chain a b (parent parents c) f g

  -- no child is above another child of the same node
  pub siblings : (x m n : ℕ) → m < length (kids parents x) → n < length (kids parents x) → Above parents (kid x m) (kid x n) → m ≡ n
  siblings x m n a b above = same_number x m n a b (by (nat_eq (kid x m) (kid x n)) refl)
    where
      by : (t : Bool) → nat_eq (kid x m) (kid x n) ≡ t → kid x m ≡ kid x n
      by true e = eqb-true (kid x m) (kid x n) e
      by false e =
          let h = above_parent (kid x m) x n b above (eqb-false (kid x m) (kid x n) e) in
          let le = Above-le parents tree (kid x m) x h in
          let lt = kid_after x m a in
          absurd (omega arith)

  -- no node is below two children of the same node
  pub one_family : (x m n c : ℕ) → m < length (kids parents x) → n < length (kids parents x) → Above parents (kid x m) c → Above parents (kid x n) c → m ≡ n
  one_family x m n c a b f g =
      elim (chain (kid x m) (kid x n) c f g) [
        | inl h ↦ siblings x m n a b h
        | inr h ↦ sym (siblings x n m b a h)
      ]
