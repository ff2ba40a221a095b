-- Sums over the numbers below a bound.
use Rattle.std.proofs.Common.{◌≡◌, ◌≢◌, ℕ, zero, suc, ◌+◌, ◌<◌, ◌≤◌, refl, ap, inl, inr, arith}
use Rattle.std.proofs.lemmas.Bool.{cases_eq}
use Rattle.tl_core.specs.Cores.{total}

pub total-same : (f g : ℕ → ℕ) (n : ℕ) → ((c : ℕ) → c < n → f c ≡ g c) → total f n ≡ total g n
total-same f g zero same = refl
total-same f g (suc n) same =
    let ih = total-same f g n (λ c lt. same c (omega arith)) in
    let last = same n (omega arith) in
    let all : total f n + f n ≡ total g n + g n = omega arith in
    all

-- only one summand is different
pub total-other : (f g : ℕ → ℕ) (n c : ℕ) → c < n → ((d : ℕ) → d < n → c ≢ d → f d ≡ g d) → total f n + g c ≡ total g n + f c
total-other f g zero c lt same = absurd (omega arith)
total-other f g (suc n) c lt same = elim (cases_eq c n) [
  | inl last ↦
      let rest = total-same f g n (λ d less. same d (omega arith) (λ (e : c ≡ d). omega arith)) in
      let at : f c ≡ f n = ap f last in
      let at2 : g c ≡ g n = ap g last in
      let all : (total f n + f n) + g c ≡ (total g n + g n) + f c = omega arith in
      all
  | inr before ↦
      let ih = total-other f g n c (omega arith) (λ d less other. same d (omega arith) other) in
      let last = same n (omega arith) before in
      let all : (total f n + f n) + g c ≡ (total g n + g n) + f c = omega arith in
      all
]

-- each summand is at most the sum
pub part-total : (f : ℕ → ℕ) (n c : ℕ) → c < n → f c ≤ total f n
part-total f zero c lt = absurd (omega arith)
part-total f (suc n) c lt = elim (cases_eq c n) [
  | inl last ↦ let at : f c ≡ f n = ap f last in let le : f c ≤ total f n + f n = omega arith in le
  | inr before ↦ let ih = part-total f n c (omega arith) in let le : f c ≤ total f n + f n = omega arith in le
]

pub total-less : (f g : ℕ → ℕ) (n : ℕ) → ((c : ℕ) → c < n → f c ≤ g c) → total f n ≤ total g n
total-less f g zero less = omega arith
total-less f g (suc n) less =
    let ih = total-less f g n (λ c lt. less c (omega arith)) in
    let last = less n (omega arith) in
    let all : total f n + f n ≤ total g n + g n = omega arith in
    all
