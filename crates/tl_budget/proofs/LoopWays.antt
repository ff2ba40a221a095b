-- The different definitions of a code's loops agree.
use Rattle.std.proofs.Common.{◌≡◌, ◌⊎◌, inl, inr, ℕ, zero, suc, ◌+◌, ◌<◌, ◌≤◌, List, [], ◌∷◌, length, Option, Some, None, Bool, true, false, cond, refl, sym, ◌∙◌, ap, subst, arith}
use Rattle.std.specs.Prelude.{◌↔◌, nat_le, slice_index_or}
use Rattle.std.specs.List.{Contains}
use Rattle.std.proofs.lemmas.Bool.{cases_order, le-leb, leb-true}
use Rattle.tl_instr.specs.declared.instr.Instr.{Instr}
use Rattle.tl_budget.specs.Loops.{Kind, Opens, Closes, Returns, Acts, kind_at, Loop, loop_at, loop_by, with_loop, around_from, around, IsAround}
use Rattle.tl_budget.proofs.LoopLemmas.{opening_is, closes_after, closes_at_end, nested}

pub closes_further_on : (code : List Instr) (o : ℕ) (l : Loop) → loop_at code o ≡ Some l → (l.opening ≡ o) × (o < l.close) × (kind_at code l.close ≡ Some Closes)
closes_further_on code o l e = (opening_is code o l e, closes_after code o l e, closes_at_end code o l e)

-- there is no end at a loop's opening
opens_at : (code : List Instr) (p : ℕ) (k : Loop) → loop_at code p ≡ Some k → kind_at code p ≡ Some Closes → ⊥
unfolding loop_at
opens_at code p k e closes = let none : loop_by code p (kind_at code p) ≡ None = ap (loop_by code p) closes in cc

pub inside_or_apart : (code : List Instr) (o p : ℕ) (l k : Loop) → loop_at code o ≡ Some l → loop_at code p ≡ Some k → o < p
    → (k.close < l.close) ⊎ (l.close < p)
inside_or_apart code o p l k e f lt = by (cases_order p l.close)
  where
    by : (p ≡ l.close) ⊎ ((p < l.close) ⊎ (l.close < p)) → (k.close < l.close) ⊎ (l.close < p)
    by (inl same) = absurd (opens_at code p k f (ap (kind_at code) same ∙ closes_at_end code o l e))
    by (inr (inl inside)) = inl (nested code o p l k e f lt inside)
    by (inr (inr apart)) = inr apart

-- ---- the list

In : Loop → List Loop → Type 0
In l [] = ⊥
In l (k ∷ ks) = (k ≡ l) ⊎ In l ks

found : (l : Loop) (ks : List Loop) → In l ks → Contains ks l
unfolding In
found l [] h = elim h [ ]
found l (k ∷ ks) (inl e) = (0, (omega arith), e)
found l (k ∷ ks) (inr h) = let (i, lt, at) = found l ks h in (suc i, (omega arith), at)

met : (l : Loop) (ks : List Loop) → Contains ks l → In l ks
unfolding In
met l [] (i, lt, at) = absurd (omega arith)
met l (k ∷ ks) (zero, lt, at) = inl at
met l (k ∷ ks) (suc i, lt, at) = inr (met l ks (i, (omega arith), at))

listed_from : (code : List Instr) (o p : ℕ) (l : Loop) → l.opening < o → loop_at code l.opening ≡ Some l → p ≤ l.close → In l (around_from code o p)
unfolding In
listed_from code zero p l lt e le = absurd (omega arith)
listed_from code (suc o) p l lt e le = by (cases_order l.opening o) (λ before. listed_from code o p l before e le)
  where
    skip : (c : Option Loop) → In l (around_from code o p) → In l (with_loop p c (around_from code o p))
    skip None h = h
    skip (Some k) h = pick (nat_le p k.close)
      where
        pick : (b : Bool) → In l (cond b (k ∷ around_from code o p) (around_from code o p))
        pick true = inr h
        pick false = h

    by : (l.opening ≡ o) ⊎ ((l.opening < o) ⊎ (o < l.opening)) → (l.opening < o → In l (around_from code o p)) → In l (with_loop p (loop_at code o) (around_from code o p))
    by (inl same) earlier =
        let there : loop_at code o ≡ Some l = ap (loop_at code) (sym same) ∙ e in
        let P : Option Loop → Type 0 = λ c. In l (with_loop p c (around_from code o p)) in
        let B : Bool → Type 0 = λ b. In l (cond b (l ∷ around_from code o p) (around_from code o p)) in
        subst P (sym there) (subst B (sym (le-leb p l.close le)) (inl refl))
    by (inr (inl before)) earlier = skip (loop_at code o) (earlier before)
    by (inr (inr behind)) earlier = absurd (omega arith)

from_list : (code : List Instr) (o p : ℕ) (l : Loop) → In l (around_from code o p) → (l.opening < o) × (loop_at code l.opening ≡ Some l) × (p ≤ l.close)
unfolding In
from_list code zero p l h = absurd h
from_list code (suc o) p l h = by (loop_at code o) refl h (from_list code o p l)
  where
    later : (In l (around_from code o p) → (l.opening < o) × (loop_at code l.opening ≡ Some l) × (p ≤ l.close)) → In l (around_from code o p) → (l.opening < suc o) × (loop_at code l.opening ≡ Some l) × (p ≤ l.close)
    later earlier h = let (lt, e, le) = earlier h in ((omega arith), e, le)

    by : (c : Option Loop) → loop_at code o ≡ c → In l (with_loop p c (around_from code o p)) → (In l (around_from code o p) → (l.opening < o) × (loop_at code l.opening ≡ Some l) × (p ≤ l.close)) → (l.opening < suc o) × (loop_at code l.opening ≡ Some l) × (p ≤ l.close)
    by None e h earlier = later earlier h
    by (Some k) e h earlier = pick (nat_le p k.close) refl h
      where
        pick : (b : Bool) → nat_le p k.close ≡ b → In l (cond b (k ∷ around_from code o p) (around_from code o p)) → (l.opening < suc o) × (loop_at code l.opening ≡ Some l) × (p ≤ l.close)
        pick true t (inl same) =
            let le : p ≤ k.close = leb-true p k.close t in
            let opens : k.opening ≡ o = opening_is code o k e in
            let P : Loop → Type 0 = λ x. (x.opening < suc o) × (loop_at code x.opening ≡ Some x) × (p ≤ x.close) in
            subst P same ((omega arith), ap (loop_at code) opens ∙ e, le)
        pick true t (inr h) = later earlier h
        pick false t h = later earlier h

pub listed : (code : List Instr) (p : ℕ) (l : Loop) → Contains (around code p) l ↔ IsAround code l.opening l p
listed code p l = (to, from)
  where
    to : Contains (around code p) l → IsAround code l.opening l p
    to h = let (lt, e, le) = from_list code p p l (met l (around code p) h) in record { there = e; after = lt; before = le }

    from : IsAround code l.opening l p → Contains (around code p) l
    from h = found l (around code p) (listed_from code p p l h.after h.there h.before)
