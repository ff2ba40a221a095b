-- Codes without faults before a position.
use Rattle.std.proofs.Common.{◌≡◌, ◌≢◌, ◌⊎◌, inl, inr, ℕ, zero, suc, ◌+◌, ◌-◌, ◌<◌, ◌≤◌, List, [], ◌∷◌, ◌++◌, length, Option, Some, None, refl, sym, ◌∙◌, ap, subst, arith}
use Rattle.std.specs.Prelude.{option_map}
use Rattle.std.proofs.lemmas.Bool.{cases_lt}
use Rattle.std.proofs.lemmas.Option.{slice_get_within, slice_get_past}
use Rattle.tl_instr.specs.declared.instr.Instr.{Instr}
use Rattle.tl_budget.specs.declared.fault.NestFault.{NestFault}
use Rattle.tl_budget.specs.declared.fault.NestFault.TheVariants.{LoopOpen, EndAlone, TooDeep, ZeroCount}
use Rattle.tl_budget.specs.Loops.{Kind, Opens, Closes, Returns, Acts, kind, kind_at, Loop, loop_at, Matched}
use Rattle.tl_budget.specs.Findings.{Finding, Alone, Zero, Deep, Unclosed, Arises, pass, position, rank, Precedes, fault_of, open_at, IsFirstFault}
use Rattle.tl_budget.specs.Nested.{IsNested}
use Rattle.tl_budget.proofs.OpenLoops.{next, opened, open_count, open_or_closed, OpenOrClosed, closes_innermost, In, Falling, falling, opens_there, unclosed}
use Rattle.tl_budget.proofs.AroundLemmas.{has, depth_is}

-- there are no faults before p, apart from loops without an end
abbrev pub Clear : List Instr → ℕ → Type 0
Clear code p = (f : Finding) → pass f ≡ 0 → position f < p → Arises code f → ⊥

-- there are no such faults at p either
abbrev pub ClearAt : List Instr → ℕ → Type 0
ClearAt code p = (f : Finding) → pass f ≡ 0 → position f ≡ p → Arises code f → ⊥

pub clear_start : (code : List Instr) → Clear code 0
clear_start code f e lt a = absurd (omega arith)

pub clear_next : (code : List Instr) (p : ℕ) → Clear code p → ClearAt code p → Clear code (p + 1)
clear_next code p before at f e lt a = by (cases_lt (position f) p)
  where
    by : (position f < p) ⊎ (p ≤ position f) → ⊥
    by (inl below) = before f e below a
    by (inr le) = let here : position f ≡ p = omega arith in at f e here a

kind_here : (code : List Instr) (p q : ℕ) (k : Kind) → q ≡ p → kind_at code q ≡ Some k → kind_at code p ≡ Some k
kind_here code p q k e at = ap (kind_at code) (sym e) ∙ at

pub clear_opens : (code : List Instr) (p w : ℕ) → kind_at code p ≡ Some (Opens w) → 0 < w → length (opened code p) < 4 → ClearAt code p
clear_opens code p w at turns room (Alone q) e here a = let k = kind_here code p q Closes here a.0 in cc
clear_opens code p w at turns room (Zero q) e here a = let k = kind_here code p q (Opens 0) here a in let z : w ≡ 0 = cc in absurd (omega arith)
clear_opens code p w at turns room (Deep q) e here a = let count = open_count code q in let same = ap (opened code) here in let deep = a.2 in let long = ap length same in absurd (omega arith)
clear_opens code p w at turns room (Unclosed q) e here a = absurd (omega arith)

pub clear_closes : (code : List Instr) (p : ℕ) → kind_at code p ≡ Some Closes → 0 < length (opened code p) → ClearAt code p
clear_closes code p at some (Alone q) e here a = let count = open_count code q in let long = ap (λ n. length (opened code n)) here in let none = a.1 in absurd (omega arith)
clear_closes code p at some (Zero q) e here a = let k = kind_here code p q (Opens 0) here a in cc
clear_closes code p at some (Deep q) e here a = let k = kind_here code p q (Opens a.0) here a.1 in cc
clear_closes code p at some (Unclosed q) e here a = absurd (omega arith)

pub clear_else : (code : List Instr) (p : ℕ) → ((w : ℕ) → kind_at code p ≢ Some (Opens w)) → kind_at code p ≢ Some Closes → ClearAt code p
clear_else code p not_open not_end (Alone q) e here a = not_end (kind_here code p q Closes here a.0)
clear_else code p not_open not_end (Zero q) e here a = not_open 0 (kind_here code p q (Opens 0) here a)
clear_else code p not_open not_end (Deep q) e here a = not_open a.0 (kind_here code p q (Opens a.0) here a.1)
clear_else code p not_open not_end (Unclosed q) e here a = absurd (omega arith)

-- at most four loops are open
pub few : (code : List Instr) (p : ℕ) → Clear code p → length (opened code p) ≤ 4
few code zero clear = omega arith
few code (suc p) clear = by (kind_at code p) refl (opened code p) refl (few code p (λ f e lt a. clear f e (omega arith) a))
  where
    by : (k : Option Kind) → kind_at code p ≡ k → (s : List ℕ) → opened code p ≡ s → length s ≤ 4 → length (next k p s) ≤ 4
    by (Some (Opens w)) at s is le = room (cases_lt (length s) 4)
      where
        room : (length s < 4) ⊎ (4 ≤ length s) → suc (length s) ≤ 4
        room (inl lt) = omega arith
        room (inr deep) =
            let count = open_count code p in
            let long = ap length is in
            absurd (clear (Deep p) refl (omega arith) (w, at, omega arith))
    by (Some Closes) at [] is le = omega arith
    by (Some Closes) at (o ∷ s) is le = omega arith
    by (Some Returns) at s is le = le
    by (Some Acts) at s is le = le
    by None at s is le = le

-- no loop opens after the end of the code
past : (code : List Instr) (n : ℕ) → opened code (n + length code) ≡ opened code (length code)
past code zero = let e : 0 + length code ≡ length code = omega arith in ap (opened code) e
past code (suc n) =
    let e : suc n + length code ≡ suc (n + length code) = omega arith in
    let none : kind_at code (n + length code) ≡ None = ap (option_map kind) (slice_get_past code (n + length code) (omega arith)) in
    ap (opened code) e ∙ ap (λ k. next k (n + length code) (opened code (n + length code))) none ∙ past code n

pub inside : (code : List Instr) (p : ℕ) (k : Kind) → kind_at code p ≡ Some k → p < length code
inside code p k at = let i = has code p k at in slice_get_within code p i.0 i.1

-- a code without faults, in which no loop is open at its end, is nested
module _ (code : List Instr) (clear : Clear code (length code)) (none : opened code (length code) ≡ []) where
  each_opens : (p w : ℕ) → kind_at code p ≡ Some (Opens w) → (l : Loop) × (loop_at code p ≡ Some l) × (0 < w)
  each_opens p zero at = absurd (clear (Zero p) refl (inside code p (Opens 0) at) at)
  each_opens p (suc w) at = by (open_or_closed code (length code) p (suc w) (inside code p (Opens (suc w)) at) at)
    where
      by : OpenOrClosed code (length code) p → (l : Loop) × (loop_at code p ≡ Some l) × (0 < suc w)
      by (inl i) = absurd (subst (In p) none i)
      by (inr h) = (h.0, h.1, omega arith)

  each_closes : (p : ℕ) → kind_at code p ≡ Some Closes → (o : ℕ) × (l : Loop) × (loop_at code o ≡ Some l) × (l.close ≡ p)
  each_closes p at = by (opened code p) refl
    where
      by : (s : List ℕ) → opened code p ≡ s → (o : ℕ) × (l : Loop) × (loop_at code o ≡ Some l) × (l.close ≡ p)
      by [] is =
          let count = open_count code p in
          let long = ap length is in
          absurd (clear (Alone p) refl (inside code p Closes at) (at, omega arith))
      by (o ∷ s) is = let c = closes_innermost code p o s at is in (o, c.0, c.1, c.2)

  few_open : (p : ℕ) → length (opened code p) ≤ 4
  few_open p = by (cases_lt p (length code))
    where
      by : (p < length code) ⊎ (length code ≤ p) → length (opened code p) ≤ 4
      by (inl lt) = few code p (λ f e below a. clear f e (omega arith) a)
      by (inr le) =
          let n = p - length code in
          let e : p ≡ n + length code = omega arith in
          let long : length (opened code p) ≡ 0 = ap (λ q. length (opened code q)) e ∙ ap length (past code n) ∙ ap length none in
          omega arith

  pub is_nested : IsNested code
  is_nested =
      let m : Matched code = record { opens = each_opens; closes = each_closes } in
      record { matched = m; shallow = λ p. let d = depth_is code m p in let le = few_open p in omega arith }

-- The first fault at the first position that has one is the code's first fault.
first_at : (code : List Instr) (p : ℕ) (f : NestFault) (found : Finding) → Clear code p → position found ≡ p → pass found ≡ 0 → Arises code found → ((g : Finding) → pass g ≡ 0 → position g ≡ p → rank g < rank found → Arises code g → ⊥) → f ≡ fault_of found → IsFirstFault code f
first_at code p f found clear here early arises alone is =
    record { finding = found; arises = arises; first = λ g a before. by g a before; fault = is }
  where
    by : (g : Finding) → Arises code g → Precedes g found → ⊥
    by g a (inl lt) = absurd (omega arith)
    by g a (inr (same, inl lt)) = clear g (same ∙ early) (omega arith) a
    by g a (inr (same, inr (there, lt))) = alone g (same ∙ early) (there ∙ here) lt a

before_zero : (code : List Instr) (p w : ℕ) → kind_at code p ≡ Some (Opens w) → (g : Finding) → pass g ≡ 0 → position g ≡ p → rank g < 1 → Arises code g → ⊥
before_zero code p w at (Alone q) early here lt a = let k = kind_here code p q Closes here a.0 in cc
before_zero code p w at (Zero q) early here lt a = absurd (omega arith)
before_zero code p w at (Deep q) early here lt a = absurd (omega arith)
before_zero code p w at (Unclosed q) early here lt a = absurd (omega arith)

before_deep : (code : List Instr) (p w : ℕ) → kind_at code p ≡ Some (Opens w) → 0 < w → (g : Finding) → pass g ≡ 0 → position g ≡ p → rank g < 2 → Arises code g → ⊥
before_deep code p w at turns (Alone q) early here lt a = let k = kind_here code p q Closes here a.0 in cc
before_deep code p w at turns (Zero q) early here lt a = let k = kind_here code p q (Opens 0) here a in let zero : w ≡ 0 = cc in absurd (omega arith)
before_deep code p w at turns (Deep q) early here lt a = absurd (omega arith)
before_deep code p w at turns (Unclosed q) early here lt a = absurd (omega arith)

pub first_zero : (code : List Instr) (p : ℕ) → Clear code p → kind_at code p ≡ Some (Opens 0) → IsFirstFault code (ZeroCount p)
first_zero code p clear at = first_at code p (ZeroCount p) (Zero p) clear refl refl at (before_zero code p 0 at) refl

pub first_deep : (code : List Instr) (p w : ℕ) → Clear code p → kind_at code p ≡ Some (Opens w) → 0 < w → 4 ≤ length (opened code p) → IsFirstFault code (TooDeep p)
first_deep code p w clear at turns le =
    let count = open_count code p in
    let deep : 4 ≤ open_at code p = omega arith in
    first_at code p (TooDeep p) (Deep p) clear refl refl (w, at, deep) (before_deep code p w at turns) refl

pub first_alone : (code : List Instr) (p : ℕ) → Clear code p → kind_at code p ≡ Some Closes → length (opened code p) ≡ 0 → IsFirstFault code (EndAlone p)
first_alone code p clear at none =
    first_at code p (EndAlone p) (Alone p) clear refl refl (at, open_count code p ∙ none) (λ g early here lt a. absurd (omega arith)) refl

-- the last element of a falling list is the lowest one
least_last : (p o : ℕ) (s : List ℕ) → Falling p (s ++ o ∷ []) → (o < p) × ((q : ℕ) → In q (s ++ o ∷ []) → o ≤ q)
least_last p o [] h = (h.0, λ q i. by q i)
  where
    by : (q : ℕ) → In q (o ∷ []) → o ≤ q
    by q (inl e) = omega arith
    by q (inr i) = absurd i
least_last p o (r ∷ s) h = by (least_last r o s h.1)
  where
    by : (o < r) × ((q : ℕ) → In q (s ++ o ∷ []) → o ≤ q) → (o < p) × ((q : ℕ) → In q (r ∷ (s ++ o ∷ [])) → o ≤ q)
    by rest = (let lt = rest.0 in let lt' = h.0 in omega arith, λ q i. each q i)
      where
        each : (q : ℕ) → In q (r ∷ (s ++ o ∷ [])) → o ≤ q
        each q (inl e) = let lt = rest.0 in omega arith
        each q (inr i) = rest.1 q i

in_last : (o : ℕ) (s : List ℕ) → In o (s ++ o ∷ [])
in_last o [] = inl refl
in_last o (r ∷ s) = inr (in_last o s)

found_inside : (code : List Instr) (f : Finding) → Arises code f → position f < length code
found_inside code (Alone p) a = inside code p Closes a.0
found_inside code (Zero p) a = inside code p (Opens 0) a
found_inside code (Deep p) a = inside code p (Opens a.0) a.1
found_inside code (Unclosed p) a = inside code p (Opens a.0) a.1

-- If all faults are loops without an end, the first of these is the code's first fault.
pub first_unclosed : (code : List Instr) (o : ℕ) (s : List ℕ) → Clear code (length code) → opened code (length code) ≡ s ++ o ∷ [] → IsFirstFault code (LoopOpen o)
first_unclosed code o s clear is =
    record { finding = Unclosed o; arises = (opens.0, opens.1, unclosed code (length code) o (omega arith) there); first = λ g a before. by g a before; fault = refl }
  where
    there : In o (opened code (length code))
    there = subst (In o) (sym is) (in_last o s)

    opens : (w : ℕ) × (kind_at code o ≡ Some (Opens w))
    opens = opens_there code (length code) o there

    least : (q : ℕ) → In q (opened code (length code)) → o ≤ q
    least q i = (least_last (length code) o s (subst (Falling (length code)) is (falling code (length code)))).1 q (subst (In q) is i)

    earlier : (q : ℕ) → Arises code (Unclosed q) → OpenOrClosed code (length code) q → o ≤ q
    earlier q a (inl i) = least q i
    earlier q a (inr h) = let e = h.1 in let f = a.2 in cc

    by : (g : Finding) → Arises code g → Precedes g (Unclosed o) → ⊥
    by (Alone q) a before = clear (Alone q) refl (found_inside code (Alone q) a) a
    by (Zero q) a before = clear (Zero q) refl (found_inside code (Zero q) a) a
    by (Deep q) a before = clear (Deep q) refl (found_inside code (Deep q) a) a
    by (Unclosed q) a (inl lt) = absurd (omega arith)
    by (Unclosed q) a (inr (same, inl lt)) = let le = earlier q a (open_or_closed code (length code) q a.0 (found_inside code (Unclosed q) a) a.1) in absurd (omega arith)
    by (Unclosed q) a (inr (same, inr (there, lt))) = absurd (omega arith)
