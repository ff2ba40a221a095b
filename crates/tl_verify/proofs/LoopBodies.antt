-- The bodies of loops: all ways into a body go through its first position.
use Rattle.std.proofs.Common.{◌≡◌, ℕ, zero, suc, ◌+◌, ◌<◌, ◌≤◌, List, [], ◌∷◌, Option, Some, None, Bool, true, false, refl, sym, ap, ◌∙◌, arith, ◌⊎◌, ⊎_elim, subst}
use Rattle.std.specs.Prelude.{slice_get, option_map, nat_le, drop, cond}
use Rattle.std.proofs.lemmas.Bool.{leb-true, leb-false}
use Rattle.tl_instr.specs.declared.instr.Instr.{Instr}
use Rattle.tl_instr.specs.Instructions.{target}
use Rattle.tl_budget.specs.Loops.{Kind, Opens, Closes, Returns, Acts, kind_at, closing, Loop, loop_at, loop_by, with_loop, around_from, IsAround}
use Rattle.tl_verify.specs.declared.marks.Marks.{Marks}
use Rattle.tl_verify.specs.Marks.{Leads, to_next, to_aside, to_body}
use Rattle.tl_verify.specs.Ways.{Way, start, onward}
use Rattle.tl_verify.proofs.Asides.{target_or_behind, behind_leaves}

-- the loop that opens at o has o as its opening, and its end is after o
pub reach : (code : List Instr) (o : ℕ) (l : Loop) → loop_at code o ≡ Some l → (l.opening ≡ o) × (o < l.close)
unfolding loop_at
reach code o l e = by (kind_at code o) e
  where
    made : (w : ℕ) (c : Option ℕ) → option_map (λ k. let m : Loop = record { opening = o; close = o + 1 + k; count = w } in m) c ≡ Some l → (l.opening ≡ o) × (o < l.close)
    made w None e = cc
    made w (Some k) e =
        let m : Loop = record { opening = o; close = o + 1 + k; count = w } in
        let same : l ≡ m = cc in
        let ends = ap (λ (x : Loop). x.close) same in
        (ap (λ (x : Loop). x.opening) same, omega arith)

    by : (k : Option Kind) → loop_by code o k ≡ Some l → (l.opening ≡ o) × (o < l.close)
    by None e = cc
    by (Some Closes) e = cc
    by (Some Returns) e = cc
    by (Some Acts) e = cc
    by (Some (Opens w)) e = made w (closing (drop (o + 1) code) 0) e

-- no jump enters a loop that it isn't in
abbrev pub EntersNone : List Instr → Type 0
EntersNone code = (p l : ℕ) (i : Instr) → slice_get code p ≡ Some i → target i ≡ Some l → (o : ℕ) (k : Loop) → IsAround code o k l → IsAround code o k p

module _ (code : List Instr) (enters_none : EntersNone code) (o : ℕ) (l : Loop) (there : loop_at code o ≡ Some l) where
  -- a step to a position of the body other than the first comes from inside the body
  pub from_body : (p q : ℕ) (m k : Marks) (i : Instr) → slice_get code p ≡ Some i → Leads code i p m q k → p < q → o + 1 < q → q ≤ l.close → o < p
  from_body p q m k i at (to_next goes is got) less behind le = omega arith
  from_body p q m k i at (to_aside is got) less behind le =
      ⊎_elim
      (λ jumps. (enters_none p q i at jumps o l (record { there = there; after = omega arith; before = le })).after)
      (λ leaves. let e = leaves.0 in behind_leaves code p o l (omega arith) (record { there = there; after = omega arith; before = omega arith }))
      (target_or_behind code p q i is)
  from_body p q m k i at (to_body o' l' there' ends is got) less behind le = let h = (reach code o' l' there').1 in absurd (omega arith)

  pub first_or_behind : (q : ℕ) → o < q → (q ≡ o + 1) ⊎ (o + 1 < q)
  first_or_behind q lt = grind arith

  -- if a way leads into the body, there is a way to its first position
  pub entered : (q : ℕ) (m : Marks) → Way code q m → o < q → q ≤ l.close → (k : Marks) × Way code (o + 1) k
  entered q m start lt le = absurd (omega arith)
  entered q m (onward {p = p} {m = before} way i at leads less) lt le =
      ⊎_elim (λ first. (m, subst (λ r. Way code r m) first (onward way i at leads less)))
      (λ behind. entered p before way (from_body p q before m i at leads less behind le) (omega arith))
      (first_or_behind q lt)

-- ---- the innermost loop

-- the innermost loop is around the position
pub innermost_around : (code : List Instr) (n q : ℕ) (l : Loop) (ls : List Loop) → around_from code n q ≡ l ∷ ls → (loop_at code l.opening ≡ Some l) × (l.opening < n) × (q ≤ l.close)
innermost_around code zero q l ls e = cc
innermost_around code (suc n) q l ls e = by (loop_at code n) refl e (λ e. innermost_around code n q l ls e)
  where
    by : (c : Option Loop) → loop_at code n ≡ c → with_loop q c (around_from code n q) ≡ l ∷ ls → (around_from code n q ≡ l ∷ ls → (loop_at code l.opening ≡ Some l) × (l.opening < n) × (q ≤ l.close)) → (loop_at code l.opening ≡ Some l) × (l.opening < suc n) × (q ≤ l.close)
    by None at f rest = let x = rest f in (x.0, let h = x.1 in omega arith, x.2)
    by (Some k) at f rest = test (nat_le q k.close) refl f
      where
        test : (b : Bool) → nat_le q k.close ≡ b → cond b (k ∷ around_from code n q) (around_from code n q) ≡ l ∷ ls → (loop_at code l.opening ≡ Some l) × (l.opening < suc n) × (q ≤ l.close)
        test true g f =
            let same : k ≡ l = cc in
            let opens = sym (ap (λ (x : Loop). x.opening) same) ∙ (reach code n k at).0 in
            let le = leb-true q k.close g in
            let ends = ap (λ (x : Loop). x.close) same in
            (ap (loop_at code) opens ∙ at ∙ ap Some same, omega arith, omega arith)
        test false g f = let x = rest f in (x.0, let h = x.1 in omega arith, x.2)

-- no other loop around the position opens after it
pub others_before : (code : List Instr) (n q o : ℕ) (k l : Loop) (ls : List Loop) → around_from code n q ≡ l ∷ ls → IsAround code o k q → o < n → o ≤ l.opening
others_before code zero q o k l ls e inside lt = absurd (omega arith)
others_before code (suc n) q o k l ls e inside lt = by (loop_at code n) refl e (λ e lt. others_before code n q o k l ls e inside lt)
  where
    here_or_below : o < suc n → (o ≡ n) ⊎ (o < n)
    here_or_below lt = grind arith

    by : (c : Option Loop) → loop_at code n ≡ c → with_loop q c (around_from code n q) ≡ l ∷ ls → (around_from code n q ≡ l ∷ ls → o < n → o ≤ l.opening) → o ≤ l.opening
    by None at f rest = ⊎_elim (λ same. let h = ap (loop_at code) same in let g = inside.there in cc) (λ below. rest f below) (here_or_below lt)
    by (Some j) at f rest = test (nat_le q j.close) refl f
      where
        test : (b : Bool) → nat_le q j.close ≡ b → cond b (j ∷ around_from code n q) (around_from code n q) ≡ l ∷ ls → o ≤ l.opening
        test true g f =
            let same : j ≡ l = cc in
            let opens = sym (ap (λ (x : Loop). x.opening) same) ∙ (reach code n j at).0 in
            omega arith
        test false g f = ⊎_elim not_here (λ below. rest f below) (here_or_below lt)
          where
            not_here : o ≡ n → o ≤ l.opening
            not_here same =
                let h : Some k ≡ Some j = sym inside.there ∙ ap (loop_at code) same ∙ at in
                let e : k ≡ j = cc in
                let ends = ap (λ (x : Loop). x.close) e in
                let le = inside.before in
                let gt = leb-false q j.close g in
                absurd (omega arith)

-- if the list of loops around a position is empty, no loop is around it
pub none_around : (code : List Instr) (n q o : ℕ) (k : Loop) → around_from code n q ≡ [] → IsAround code o k q → o < n → ⊥
none_around code zero q o k e inside lt = absurd (omega arith)
none_around code (suc n) q o k e inside lt = by (loop_at code n) refl e (λ e lt. none_around code n q o k e inside lt)
  where
    here_or_below : o < suc n → (o ≡ n) ⊎ (o < n)
    here_or_below lt = grind arith

    by : (c : Option Loop) → loop_at code n ≡ c → with_loop q c (around_from code n q) ≡ [] → (around_from code n q ≡ [] → o < n → ⊥) → ⊥
    by None at f rest = ⊎_elim (λ same. let h = ap (loop_at code) same in let g = inside.there in cc) (λ below. rest f below) (here_or_below lt)
    by (Some j) at f rest = test (nat_le q j.close) refl f
      where
        test : (b : Bool) → nat_le q j.close ≡ b → cond b (j ∷ around_from code n q) (around_from code n q) ≡ [] → ⊥
        test true g f = cc
        test false g f = ⊎_elim not_here (λ below. rest f below) (here_or_below lt)
          where
            not_here : o ≡ n → ⊥
            not_here same =
                let h : Some k ≡ Some j = sym inside.there ∙ ap (loop_at code) same ∙ at in
                let e : k ≡ j = cc in
                let ends = ap (λ (x : Loop). x.close) e in
                let le = inside.before in
                let gt = leb-false q j.close g in
                absurd (omega arith)
