-- If openings and ends match, the loops around a position are those that are open there.
use Rattle.std.proofs.Common.{◌≡◌, ℕ, zero, suc, ◌+◌, ◌≤◌, List, ◌∷◌, length, map, drop, Option, Some, None, refl, sym, ◌∙◌, ap, subst, arith}
use Rattle.std.specs.Prelude.{option_map, slice_get}
use Rattle.std.proofs.lemmas.List.{length-map}
use Rattle.tl_instr.specs.declared.instr.Instr.{Instr}
use Rattle.tl_budget.specs.Loops.{Kind, Opens, Closes, Returns, Acts, kind, kind_at, Loop, around, Matched}
use Rattle.tl_budget.specs.Findings.{Finding, Alone, Zero, Deep, Unclosed, Arises}
use Rattle.tl_budget.specs.Nested.{IsNested}
use Rattle.tl_budget.proofs.LoopLemmas.{nests, stays, opening_is}
use Rattle.tl_budget.proofs.OpenLoops.{next, opened, open_count}

abbrev pub openings : List Loop → List ℕ
openings ls = map (λ (l : Loop). l.opening) ls

-- there is an instruction of this kind at p
abbrev pub Has : List Instr → ℕ → Kind → Type 0
Has code p k = (i : Instr) × (slice_get code p ≡ Some i) × (kind i ≡ k)

pub has : (code : List Instr) (p : ℕ) (k : Kind) → kind_at code p ≡ Some k → Has code p k
has code p k e = by (slice_get code p) refl e
  where
    by : (o : Option Instr) → slice_get code p ≡ o → option_map kind o ≡ Some k → Has code p k
    by None at e = cc
    by (Some i) at e = (i, at, cc)

pub around_opened : (code : List Instr) → Matched code → (p : ℕ) → openings (around code p) ≡ opened code p
around_opened code m zero = refl
around_opened code m (suc p) =
    let e : suc p ≡ p + 1 = omega arith in
    ap (λ q. openings (around code q)) e ∙ by (kind_at code p) refl (around_opened code m p)
  where
    by : (k : Option Kind) → kind_at code p ≡ k → openings (around code p) ≡ opened code p → openings (around code (p + 1)) ≡ next k p (opened code p)
    by (Some (Opens w)) e same =
        let i = has code p (Opens w) e in
        let o = (nests code m).opens p w i.0 i.1 i.2 in
        ap openings o.4
        ∙ ap (λ n. n ∷ openings (around code p)) (opening_is code p o.0 o.1)
        ∙ ap (λ s. p ∷ s) same
    by (Some Closes) e same =
        let i = has code p Closes e in
        let c = (nests code m).closes p i.0 i.1 i.2 in
        ap openings c.4 ∙ ap (λ ls. drop 1 (openings ls)) (sym c.2) ∙ ap (drop 1) same
    by (Some Returns) e same = ap openings (stays code p (λ w f. cc) (λ f. cc)) ∙ same
    by (Some Acts) e same = ap openings (stays code p (λ w f. cc) (λ f. cc)) ∙ same
    by None e same = ap openings (stays code p (λ w f. cc) (λ f. cc)) ∙ same

pub depth_is : (code : List Instr) → Matched code → (p : ℕ) → length (around code p) ≡ length (opened code p)
depth_is code m p = sym (length-map (around code p) (λ (l : Loop). l.opening)) ∙ ap length (around_opened code m p)

-- a nested code has no faults of loops
pub nothing_found : (code : List Instr) → IsNested code → (f : Finding) → Arises code f → ⊥
nothing_found code nested (Alone p) a =
    let i = has code p Closes a.0 in
    let c = (nests code nested.matched).closes p i.0 i.1 i.2 in
    let deep : length (around code p) ≡ suc (length c.1) = ap length c.2 in
    let same = depth_is code nested.matched p in
    let count = open_count code p in
    let none = a.1 in
    omega arith
nothing_found code nested (Zero p) a = let m = (nested.matched.opens p 0 a).2 in omega arith
nothing_found code nested (Deep p) a =
    let i = has code p (Opens a.0) a.1 in
    let o = (nests code nested.matched).opens p a.0 i.0 i.1 i.2 in
    let shallow = subst (λ ls. length ls ≤ 4) o.4 (nested.shallow (p + 1)) in
    let same = depth_is code nested.matched p in
    let count = open_count code p in
    let deep = a.2 in
    omega arith
nothing_found code nested (Unclosed p) a = let m = nested.matched.opens p a.0 a.1 in let e = m.1 in let f = a.2 in cc
