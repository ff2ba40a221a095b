-- Paths from a node up to the root.
use Rattle.std.proofs.Common.{◌≢◌, ℕ, zero, suc, ◌≤◌, List, length, inl, inr, refl, arith}
use Rattle.std.proofs.lemmas.Bool.{cases_lt}
use Rattle.std.proofs.lemmas.List.{get_or_past}
use Rattle.tl_tree.specs.Shape.{parent, IsTree, Above, itself, below}

pub parent_le : (parents : List ℕ) → IsTree parents → (x : ℕ) → parent parents x ≤ x
parent_le parents tree zero = let at = tree.root in omega arith
parent_le parents tree (suc x) =
    elim (cases_lt (suc x) (length parents)) [
      | inl inside ↦ (let at = tree.lower (suc x) (omega arith) inside in omega arith)
      | inr past ↦ (let at = get_or_past parents (suc x) 0 past in omega arith)
    ]

-- a path up leads only to nodes with lower numbers
pub Above-le : (parents : List ℕ) → IsTree parents → (a b : ℕ) → Above parents a b → a ≤ b
Above-le parents tree a b itself = omega arith
Above-le parents tree a b (below h) = omega (arith, Above-le parents tree a (parent parents b) h, parent_le parents tree b)

-- a path up to another node goes through the parent
pub Above-parent : (parents : List ℕ) (a b : ℕ) → b ≢ a → Above parents a b → Above parents a (parent parents b)
Above-parent parents a b other itself = absurd (other refl)
Above-parent parents a b other (below h) = h
