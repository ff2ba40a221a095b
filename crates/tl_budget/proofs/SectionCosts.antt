-- Comparing the costs of sections of a code.
use Rattle.std.proofs.Common.{◌≡◌, ℕ, zero, suc, ◌+◌, ◌-◌, ◌*◌, ◌<◌, ◌≤◌, List, [], ◌∷◌, ◌++◌, length, Option, Some, None, Bool, true, false, refl, sym, ap, ◌∙◌, subst, arith}
use Rattle.std.specs.Prelude.{slice_get, option_map, nat_le, drop, cond}
use Rattle.std.proofs.Math.Nat.{mul-le-mul_left, mul-le-mul_right, one-le-mul, mul-one, mul_assoc, mul_comm}
use Rattle.std.proofs.lemmas.Bool.{le-leb}
use Rattle.std.proofs.lemmas.Bool.Decides.{nat_tests}
use Rattle.tl_instr.specs.declared.instr.Instr.{Instr}
use Rattle.tl_budget.specs.Loops.{Kind, Opens, Closes, Returns, Acts, kind_at, closing, Loop, loop_at, loop_by, with_loop, around_from, product, weight, weights_from, weights, Matched}
use Rattle.tl_budget.specs.Costs.{factor_by, factor, times, weight_from, passes, cost_from, cost}

leb-le : (a b : ℕ) → nat_le a b ≡ true → a ≤ b
leb-le a b h = grind (arith, nat_tests)

leb-lt : (a b : ℕ) → nat_le a b ≡ false → b < a
leb-lt a b h = grind (arith, nat_tests)

-- each loop has a count of at least 1
abbrev pub Turns : List Instr → Type 0
Turns code = (o : ℕ) (l : Loop) → loop_at code o ≡ Some l → 0 < l.count

count_by : (code : List Instr) (p : ℕ) (o : Option Kind) (l : Loop) → loop_by code p o ≡ Some l → o ≡ Some (Opens l.count)
count_by code p None l e = cc
count_by code p (Some Closes) l e = cc
count_by code p (Some Returns) l e = cc
count_by code p (Some Acts) l e = cc
count_by code p (Some (Opens w)) l e = found (closing (drop (p + 1) code) 0) e
  where
    found : (k : Option ℕ) → option_map (λ k. let m : Loop = record { opening = p; close = p + 1 + k; count = w } in m) k ≡ Some l → ◌≡◌ {A = Option Kind} (Some (Opens w)) (Some (Opens l.count))
    found None e = cc
    found (Some k) e =
        let m : Loop = record { opening = p; close = p + 1 + k; count = w } in
        let same : m ≡ l = cc in
        ap (λ (x : Loop). Some (Opens x.count)) same

pub turns_of : (code : List Instr) → Matched code → Turns code
unfolding loop_at
turns_of code matched o l e = (matched.opens o l.count (count_by code o (kind_at code o) l e)).2

module _ (code : List Instr) where
  -- ---- how often

  factor_once : (o x : ℕ) → loop_at code o ≡ None → factor code o x ≡ 1
  factor_once o x none = ap (λ c. factor_by c x) none

  factor_in : (o x : ℕ) (l : Loop) → loop_at code o ≡ Some l → x ≤ l.close → factor code o x ≡ l.count
  factor_in o x l e le = ap (λ c. factor_by c x) e ∙ ap (λ b. cond b l.count 1) (le-leb x l.close le)

  weight_here : (p : ℕ) → weight_from code p p ≡ 1
  weight_here p = let e : p - p ≡ 0 = omega arith in ap (λ n. times code n p p) e

  weight_peel : (o x : ℕ) → o < x → weight_from code o x ≡ factor code o x * weight_from code (suc o) x
  weight_peel o x lt = let e : x - o ≡ suc (x - suc o) = omega arith in ap (λ n. times code n o x) e

  times_snoc : (n o x : ℕ) → times code (suc n) o x ≡ times code n o x * factor code (o + n) x
  times_snoc zero o x = let e : o + 0 ≡ o = omega arith in let h = ap (λ k. factor code k x) e in omega arith
  times_snoc (suc n) o x =
      let e : suc o + n ≡ o + suc n = omega arith in
      ap (λ k. factor code o x * k) (times_snoc n (suc o) x ∙ ap (λ k. times code n (suc o) x * factor code k x) e)
      ∙ sym (mul_assoc (factor code o x) (times code n (suc o) x) (factor code (o + suc n) x))

  with_product : (x : ℕ) (c : Option Loop) (loops : List Loop) → product (with_loop x c loops) ≡ product loops * factor_by c x
  with_product x None loops = sym (mul-one (product loops))
  with_product x (Some l) loops = by (nat_le x l.close)
    where
      by : (b : Bool) → product (cond b (l ∷ loops) loops) ≡ product loops * cond b l.count 1
      by true = mul_comm l.count (product loops)
      by false = sym (mul-one (product loops))

  product_times : (n x : ℕ) → product (around_from code n x) ≡ times code n 0 x
  product_times zero x = refl
  product_times (suc n) x =
      with_product x (loop_at code n) (around_from code n x)
      ∙ ap (λ k. k * factor code n x) (product_times n x)
      ∙ (let e : 0 + n ≡ n = omega arith in ap (λ k. times code n 0 x * factor code k x) (sym e))
      ∙ sym (times_snoc n 0 x)

  pub weight_is : (x : ℕ) → weight code x ≡ weight_from code 0 x
  weight_is x = let e : x ≡ x - 0 = omega arith in product_times x x ∙ ap (λ n. times code n 0 x) e

  -- ---- sums

  module _ (test : Instr → Bool) where
    -- 1 if the instruction passes the test, otherwise 0
    abbrev pub one_at : ℕ → ℕ
    one_at p = cond (passes test (slice_get code p)) 1 0

    abbrev term : ℕ → ℕ → ℕ
    term o x = cond (passes test (slice_get code x)) (weight_from code o x) 0

    split : (o n m x : ℕ) → cost_from test code o (n + m) x ≡ cost_from test code o n x + cost_from test code o m (x + n)
    split o zero m x =
        let e : x + 0 ≡ x = omega arith in
        let d : 0 + m ≡ m = omega arith in
        let h = ap (cost_from test code o m) e in
        let g = ap (λ k. cost_from test code o k x) d in
        omega arith
    split o (suc n) m x =
        let e : suc x + n ≡ x + suc n = omega arith in
        let d : suc n + m ≡ suc (n + m) = omega arith in
        let k = ap (λ k. cost_from test code o k x) d in
        let h = split o n m (suc x) in
        let g = ap (cost_from test code o m) e in
        omega arith

    -- if the loop that opens at o multiplies all these positions by w, so does it their cost
    from_times : (w o n x : ℕ) → o < x → ((y : ℕ) → x ≤ y → y < x + n → factor code o y ≡ w) → cost_from test code o n x ≡ w * cost_from test code (suc o) n x
    from_times w o zero x lt same = omega arith
    from_times w o (suc n) x lt same =
        let rest = from_times w o n (suc x) (omega arith) (λ y le less. same y (omega arith) (omega arith)) in
        let here : weight_from code o x ≡ w * weight_from code (suc o) x = weight_peel o x lt ∙ ap (λ k. k * weight_from code (suc o) x) (same x (omega arith) (omega arith)) in
        let first : term o x ≡ w * term (suc o) x = by (passes test (slice_get code x)) here in
        omega arith
      where
        by : (b : Bool) → weight_from code o x ≡ w * weight_from code (suc o) x → cond b (weight_from code o x) 0 ≡ w * cond b (weight_from code (suc o) x) 0
        by true h = h
        by false h = omega arith

    pub cost_none : (p q : ℕ) → q ≤ p → cost test code p q ≡ 0
    cost_none p q le = let e : q - p ≡ 0 = omega arith in ap (λ n. cost_from test code p n p) e

    pub step_from : (p q : ℕ) → p < q → cost test code p q ≡ one_at p + cost_from test code p (q - suc p) (suc p)
    step_from p q lt =
        let e : q - p ≡ suc (q - suc p) = omega arith in
        ap (λ n. cost_from test code p n p) e
        ∙ ap (λ w. cond (passes test (slice_get code p)) w 0 + cost_from test code p (q - suc p) (suc p)) (weight_here p)

    -- a position where no loop opens
    pub cost_next : (p q : ℕ) → p < q → loop_at code p ≡ None → cost test code p q ≡ one_at p + cost test code (p + 1) q
    cost_next p q lt none =
        let e : suc p ≡ p + 1 = omega arith in
        let h = from_times 1 p (q - suc p) (suc p) (omega arith) (λ y le less. factor_once p y none) in
        let g = ap (λ n. cost test code n q) e in
        let s = step_from p q lt in
        omega arith

    module _ (turns : Turns code) where
      factor_some : (o x : ℕ) → 1 ≤ factor code o x
      factor_some o x = by (loop_at code o) refl
        where
          at : (l : Loop) → 0 < l.count → (b : Bool) → 1 ≤ cond b l.count 1
          at l some true = some
          at l some false = omega arith

          by : (c : Option Loop) → loop_at code o ≡ c → 1 ≤ factor_by c x
          by None e = omega arith
          by (Some l) e = at l (turns o l e) (nat_le x l.close)

      from_later : (o n x : ℕ) → o < x → cost_from test code (suc o) n x ≤ cost_from test code o n x
      from_later o zero x lt = omega arith
      from_later o (suc n) x lt =
          let rest = from_later o n (suc x) (omega arith) in
          let more = mul-le-mul_right (weight_from code (suc o) x) (factor_some o x) in
          let peel = weight_peel o x lt in
          let here : weight_from code (suc o) x ≤ weight_from code o x = omega arith in
          let first : term (suc o) x ≤ term o x = by (passes test (slice_get code x)) here in
          omega arith
        where
          by : (b : Bool) → weight_from code (suc o) x ≤ weight_from code o x → cond b (weight_from code (suc o) x) 0 ≤ cond b (weight_from code o x) 0
          by true h = h
          by false h = omega arith

      cost_suc : (p q : ℕ) → cost test code (suc p) q ≤ cost test code p q
      cost_suc p q = by (nat_le q p) refl
        where
          by : (b : Bool) → nat_le q p ≡ b → cost test code (suc p) q ≤ cost test code p q
          by true e = let le = leb-le q p e in let h = cost_none (suc p) q (omega arith) in omega arith
          by false e =
              let s = step_from p q (leb-lt q p e) in
              let h = from_later p (q - suc p) (suc p) (omega arith) in
              omega arith

      -- a section that starts later costs no more
      pub cost_later : (p r q : ℕ) → p ≤ r → cost test code r q ≤ cost test code p q
      cost_later p r q le = let e : p + (r - p) ≡ r = omega arith in let h = ap (λ n. cost test code n q) e in let g = go (r - p) in omega arith
        where
          go : (d : ℕ) → cost test code (p + d) q ≤ cost test code p q
          go zero = let e : p + 0 ≡ p = omega arith in let h = ap (λ n. cost test code n q) e in omega arith
          go (suc d) =
              let e : p + suc d ≡ suc (p + d) = omega arith in
              let h = ap (λ n. cost test code n q) e in
              let s = cost_suc (p + d) q in
              let g = go d in
              omega arith

      -- the cost of a loop's opening, of its turns, and of what follows it
      pub cost_opens : (p q : ℕ) (l : Loop) → loop_at code p ≡ Some l → p < l.close → l.close < q
          → one_at p + l.count * cost test code (p + 1) (l.close + 1) + cost test code (l.close + 1) q ≤ cost test code p q
      cost_opens p q l e behind lt =
          let n = l.close - p in
          let m = q - (l.close + 1) in
          let sizes : q - suc p ≡ n + m = omega arith in
          let there : suc p + n ≡ l.close + 1 = omega arith in
          let s = step_from p q (omega arith) in
          let a = ap (λ k. cost_from test code p k (suc p)) sizes in
          let b = split p n m (suc p) in
          let inner = from_times l.count p n (suc p) (omega arith) (λ y le less. factor_in p y l e (omega arith)) in
          let body : cost_from test code (suc p) n (suc p) ≡ cost test code (p + 1) (l.close + 1) =
          let x : suc p ≡ p + 1 = omega arith in
          let y : n ≡ l.close + 1 - (p + 1) = omega arith in
          ap (λ k. cost_from test code (suc p) k (suc p)) y ∙ ap (λ k. cost_from test code k (l.close + 1 - (p + 1)) k) x in
          let outer : cost test code (l.close + 1) q ≤ cost_from test code p m (suc p + n) =
          let h = ap (cost_from test code p m) there in let g = down (l.close + 1 - p) p m (l.close + 1) (omega arith) in omega arith in
          let bodies = ap (λ k. l.count * k) body in
          omega arith
        where
          -- from any lower start
          down : (d o m x : ℕ) → x ≡ o + d → cost_from test code x m x ≤ cost_from test code o m x
          down zero o m x e = let same : x ≡ o = omega arith in let h = ap (λ k. cost_from test code k m x) same in omega arith
          down (suc d) o m x e = let h = down d (suc o) m x (omega arith) in let g = from_later o m x (omega arith) in omega arith

    -- ---- the whole code

    drop-parts : (xs is : List Instr) (i : Instr) (p : ℕ) → drop p xs ≡ i ∷ is → (slice_get xs p ≡ Some i) × (drop (suc p) xs ≡ is)
    drop-parts [] is i zero e = cc
    drop-parts [] is i (suc p) e = cc
    drop-parts (x ∷ xs) is i zero e = let a : x ≡ i = cc in let b : xs ≡ is = cc in (ap Some a, b)
    drop-parts (x ∷ xs) is i (suc p) e = drop-parts xs is i p e

    weights_cost : (is : List Instr) (p : ℕ) → drop p code ≡ is → weights_from test code is p ≡ cost_from test code 0 (length is) p
    weights_cost [] p e = refl
    weights_cost (i ∷ is) p e =
        let parts = drop-parts code is i p e in
        let x : suc p ≡ p + 1 = omega arith in
        let rest = weights_cost is (p + 1) (ap (λ n. drop n code) (sym x) ∙ parts.1) in
        ap (λ w. cond (test i) w 0 + weights_from test code is (p + 1)) (weight_is p)
        ∙ ap (λ n. cond (test i) (weight_from code 0 p) 0 + n) (rest ∙ ap (cost_from test code 0 (length is)) (sym x))
        ∙ ap (λ o. cond (passes test o) (weight_from code 0 p) 0 + cost_from test code 0 (length is) (suc p)) (sym parts.0)

    -- the sum of the code's weights is its cost from its start
    pub cost_whole : weights test code ≡ cost test code 0 (length code)
    cost_whole = let e : length code ≡ length code - 0 = omega arith in weights_cost code 0 refl ∙ ap (λ n. cost_from test code 0 n 0) e
