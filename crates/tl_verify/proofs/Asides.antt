-- The positions to which control may go with the marks from before an instruction.
use Rattle.std.proofs.Common.{◌≡◌, ℕ, ◌+◌, ◌<◌, ◌≤◌, List, Option, Some, None, true, refl, sym, ap, ◌∙◌, arith, ◌⊎◌, inl, inr}
use Rattle.std.specs.Prelude.{slice_get, option_map}
use Rattle.std.proofs.lemmas.Bool.{cases_lt, cases_eq}
use Rattle.tl_instr.specs.declared.instr.Instr.{Instr}
use Rattle.tl_instr.specs.declared.instr.Instr.TheVariants.{RepeatBy}
use Rattle.tl_instr.specs.Instructions.{target}
use Rattle.tl_budget.specs.Loops.{Opens, kind, kind_at, Loop, loop_at, IsAround}
use Rattle.tl_budget.specs.Nested.{IsNest, place_at}
use Rattle.tl_budget.specs.declared.nested.Place.{Place}
use Rattle.tl_budget.proofs.LoopLemmas.{nested, closes_after}
use Rattle.tl_verify.specs.Marks.{goes_on, close_of, end_of, aside_by, aside, furthest_by, furthest}

-- a target is such a position
pub target_aside : (code : List Instr) (p q : ℕ) (i : Instr) → target i ≡ Some q → aside code p i ≡ Some q
target_aside code p q (RepeatBy turns count) e = cc
target_aside code p q i e = e

-- such a position is a target, or the position after the end of the loop that opens here
pub target_or_behind : (code : List Instr) (p q : ℕ) (i : Instr) → aside code p i ≡ Some q
    → (target i ≡ Some q) ⊎ ((q ≡ end_of code p + 1) × (furthest code p i ≡ end_of code p) × (goes_on i ≡ true))
target_or_behind code p q (RepeatBy turns count) e = inr (let h : end_of code p + 1 ≡ q = cc in sym h, refl, refl)
target_or_behind code p q i e = inl e

-- the furthest position is the next one, or the one to which control may go aside
pub furthest_goes : (code : List Instr) (p : ℕ) (i : Instr) → (furthest code p i ≡ p) ⊎ (aside code p i ≡ Some (furthest code p i + 1))
furthest_goes code p (RepeatBy turns count) = inr refl
furthest_goes code p i = inl refl

-- the end of a loop isn't before its opening
pub end_after : (code : List Instr) (p : ℕ) → p ≤ end_of code p
end_after code p = by (loop_at code p) refl
  where
    by : (o : Option Loop) → loop_at code p ≡ o → p ≤ close_of p o
    by None e = omega arith
    by (Some l) e = let h = closes_after code p l e in omega arith

pub furthest_after : (code : List Instr) (p : ℕ) (i : Instr) → p ≤ furthest code p i
furthest_after code p (RepeatBy turns count) = end_after code p
furthest_after code p i = omega arith

-- a loop that contains the position after the loop that opens at p, but not as the first position of its body, contains p
pub behind_leaves : (code : List Instr) (p o : ℕ) (k : Loop) → o < end_of code p → IsAround code o k (end_of code p + 1) → o < p
behind_leaves code p o k behind x = by (loop_at code p) refl behind x
  where
    by : (c : Option Loop) → loop_at code p ≡ c → o < close_of p c → IsAround code o k (close_of p c + 1) → o < p
    by None e lt x = lt
    by (Some l) e lt x =
        elim (cases_lt o p) [
          | inl less ↦ less
          | inr le ↦
              elim (cases_eq o p) [
                | inl same ↦
                    let h : Some k ≡ Some l = sym x.there ∙ ap (loop_at code) same ∙ e in
                    let g : k ≡ l = cc in
                    let close : k.close ≡ l.close = ap (λ (y : Loop). y.close) g in
                    let far = x.before in
                    absurd (omega arith)
                | inr other ↦
                    let inside = nested code p o l k e x.there (omega arith) lt in
                    let far = x.before in
                    absurd (omega arith)
              ]
        ]

-- the stored place of a loop's opening has the loop's end
end_at : (code : List Instr) (places : List Place) → IsNest code places → (p w : ℕ) → kind_at code p ≡ Some (Opens w) → (place_at places p).close ≡ end_of code p
end_at code places nest p w at = let m = nest.nested.matched.opens p w at in nest.close p m.0 m.1 ∙ sym (ap (close_of p) m.1)

pub aside_at : (code : List Instr) (places : List Place) → IsNest code places → (p : ℕ) (i : Instr) → slice_get code p ≡ Some i → aside_by (place_at places p).close i ≡ aside code p i
aside_at code places nest p (RepeatBy turns count) at = ap (λ n. Some (n + 1)) (end_at code places nest p count (ap (option_map kind) at))
aside_at code places nest p i at = refl

pub furthest_at : (code : List Instr) (places : List Place) → IsNest code places → (p : ℕ) (i : Instr) → slice_get code p ≡ Some i → furthest_by (place_at places p).close p i ≡ furthest code p i
furthest_at code places nest p (RepeatBy turns count) at = end_at code places nest p count (ap (option_map kind) at)
furthest_at code places nest p i at = refl
