-- Sets of registers as the bits of a byte.
use Rattle.std.proofs.Common.{◌≡◌, ℕ, zero, suc, ◌-◌, ◌/◌, ◌%◌, ◌<◌, ◌∷◌, refl, sym, ap, ap₂, ◌∙◌, arith, w8, bit_and, min}
use Rattle.std.specs.Prelude.{nat_eq, not, ◌&&◌}
use Rattle.std.specs.Int.{bit_at, bit_not}
use Rattle.std.proofs.lemmas.Nat.Bits.{bit_at_lowest, bit_at-suc, bit_at_and, bit_at_not}
use Rattle.tl_lowering.specs.Sets.{both, minus}
use Rattle.tl_verify.specs.Bits.{bits_of}

bit_both : (x y : ℕ) → x < 2 → y < 2 → nat_eq (min x y) 1 ≡ nat_eq x 1 && nat_eq y 1
bit_both zero zero a b = refl
bit_both zero (suc zero) a b = refl
bit_both (suc zero) zero a b = refl
bit_both (suc zero) (suc zero) a b = refl
bit_both (suc (suc x)) y a b = absurd (omega arith)
bit_both x (suc (suc y)) a b = absurd (omega arith)

bit_minus : (x y : ℕ) → x < 2 → y < 2 → nat_eq (min x (1 - y)) 1 ≡ nat_eq x 1 && not (nat_eq y 1)
bit_minus zero zero a b = refl
bit_minus zero (suc zero) a b = refl
bit_minus (suc zero) zero a b = refl
bit_minus (suc zero) (suc zero) a b = refl
bit_minus (suc (suc x)) y a b = absurd (omega arith)
bit_minus x (suc (suc y)) a b = absurd (omega arith)

both_by : (count m a b : ℕ) → ((i : ℕ) → i < count → bit_at m i ≡ min (bit_at a i) (bit_at b i)) → bits_of count m ≡ both (bits_of count a) (bits_of count b)
both_by zero m a b h = refl
both_by (suc count) m a b h =
    let here : nat_eq (m % 2) 1 ≡ nat_eq (a % 2) 1 && nat_eq (b % 2) 1 =
    ap (λ z. nat_eq z 1) (sym (bit_at_lowest m) ∙ h 0 (omega arith) ∙ ap₂ min (bit_at_lowest a) (bit_at_lowest b)) ∙ bit_both (a % 2) (b % 2) (omega arith) (omega arith) in
    ap₂ (λ x xs. x ∷ xs) here (both_by count (m / 2) (a / 2) (b / 2) (λ i lt. sym (bit_at-suc m i) ∙ h (suc i) (omega arith) ∙ ap₂ min (bit_at-suc a i) (bit_at-suc b i)))

minus_by : (count m a b : ℕ) → ((i : ℕ) → i < count → bit_at m i ≡ min (bit_at a i) (1 - bit_at b i)) → bits_of count m ≡ minus (bits_of count a) (bits_of count b)
minus_by zero m a b h = refl
minus_by (suc count) m a b h =
    let here : nat_eq (m % 2) 1 ≡ nat_eq (a % 2) 1 && not (nat_eq (b % 2) 1) =
    ap (λ z. nat_eq z 1) (sym (bit_at_lowest m) ∙ h 0 (omega arith) ∙ ap₂ (λ x y. min x (1 - y)) (bit_at_lowest a) (bit_at_lowest b)) ∙ bit_minus (a % 2) (b % 2) (omega arith) (omega arith) in
    ap₂ (λ x xs. x ∷ xs) here (minus_by count (m / 2) (a / 2) (b / 2) (λ i lt. sym (bit_at-suc m i) ∙ h (suc i) (omega arith) ∙ ap₂ (λ x y. min x (1 - y)) (bit_at-suc a i) (bit_at-suc b i)))

pub bits_both : (a b : ℕ) → bits_of 8 (bit_and a b) ≡ both (bits_of 8 a) (bits_of 8 b)
bits_both a b = both_by 8 (bit_and a b) a b (λ i lt. bit_at_and a b i)

pub bits_minus : (a b : ℕ) → b < 256 → bits_of 8 (bit_and a (bit_not w8 b)) ≡ minus (bits_of 8 a) (bits_of 8 b)
bits_minus a b small =
    minus_by 8 (bit_and a (bit_not w8 b)) a b (λ i lt. bit_at_and a (bit_not w8 b) i ∙ ap (min (bit_at a i)) (bit_at_not w8 b i small lt))
