-- The bits of a number, one by one.
use Rattle.std.proofs.Common.{◌≡◌, ◌≢◌, ℕ, zero, suc, ◌+◌, ◌*◌, ◌/◌, ◌%◌, ◌^◌, ◌<◌, Some, Bool, true, false, refl, sym, ap, ◌∙◌, arith, w8, bit_and, bit_or, pow_pos, pow_mono}
use Rattle.std.specs.Prelude.{slice_set, get_or, nat_eq, not}
use Rattle.std.specs.Int.{bit_at, bit_not, trailing_zeros}
use Rattle.std.proofs.lemmas.Bool.{eq-eqb, ne_eqb}
use Rattle.std.proofs.lemmas.Nat.Bits.{bit_at_lowest, bit_at-suc, bit_at-lt, and_pow, bit_at_set_same, bit_at_set_other, bit_at_clear_same, bit_at_clear_other, bit_at-trailing_zeros}
use Rattle.std.proofs.Math.Nat.{two-pow-succ}
use Rattle.tl_verify.specs.Bits.{bits_of}
use Rattle.tl_verify.specs.Pass.{first_held}

bit_is : (count n i : ℕ) → i < count → get_or (bits_of count n) i false ≡ nat_eq (bit_at n i) 1
bit_is zero n i lt = absurd (omega arith)
bit_is (suc count) n zero lt = ap (λ x. nat_eq x 1) (sym (bit_at_lowest n))
bit_is (suc count) n (suc i) lt = bit_is count (n / 2) i (omega arith) ∙ ap (λ x. nat_eq x 1) (sym (bit_at-suc n i))

-- numbers with equal bits have the same list of bits
same_bits : (count m n : ℕ) → ((i : ℕ) → i < count → bit_at m i ≡ bit_at n i) → bits_of count m ≡ bits_of count n
same_bits zero m n same = refl
same_bits (suc count) m n same =
    let head = ap (λ x. nat_eq x 1) (sym (bit_at_lowest m) ∙ same 0 (omega arith) ∙ bit_at_lowest n) in
    let tail = same_bits count (m / 2) (n / 2) (λ i lt. sym (bit_at-suc m i) ∙ same (suc i) (omega arith) ∙ bit_at-suc n i) in
    cc

-- numbers whose bits are equal except for one
other_bit : (count m n k : ℕ) (b : Bool) → k < count → nat_eq (bit_at m k) 1 ≡ b → ((i : ℕ) → i < count → i ≢ k → bit_at m i ≡ bit_at n i)
    → bits_of count m ≡ slice_set (bits_of count n) k b
other_bit zero m n k b lt is others = absurd (omega arith)
other_bit (suc count) m n zero b lt is others =
    let head = ap (λ x. nat_eq x 1) (sym (bit_at_lowest m)) ∙ is in
    let tail = same_bits count (m / 2) (n / 2) (λ i lt. sym (bit_at-suc m i) ∙ others (suc i) (omega arith) (λ e. absurd (omega arith)) ∙ bit_at-suc n i) in
    cc
other_bit (suc count) m n (suc k) b lt is others =
    let head = ap (λ x. nat_eq x 1) (sym (bit_at_lowest m) ∙ others 0 (omega arith) (λ e. absurd (omega arith)) ∙ bit_at_lowest n) in
    let tail = other_bit count (m / 2) (n / 2) k b (omega arith) (ap (λ x. nat_eq x 1) (sym (bit_at-suc m k)) ∙ is)
    (λ i lt ne. sym (bit_at-suc m i) ∙ others (suc i) (omega arith) (λ e. ne (omega arith)) ∙ bit_at-suc n i) in
    cc

-- the test of a bit of a byte
pub tested : (n k : ℕ) → k < 8 → not (nat_eq (bit_and n (1 * 2 ^ k % 256)) 0) ≡ get_or (bits_of 8 n) k false
tested n k lt = by (bit_at n k) refl (bit_at-lt n k) ∙ sym (bit_is 8 n k lt)
  where
    mask : 1 * 2 ^ k % 256 ≡ 2 ^ k
    mask = let small : 2 ^ k < 256 = omega (arith, two-pow-succ k, pow_pos k, pow_mono {i = suc k} {j = 8} (omega arith)) in omega arith

    by : (b : ℕ) → bit_at n k ≡ b → bit_at n k < 2 → not (nat_eq (bit_and n (1 * 2 ^ k % 256)) 0) ≡ nat_eq (bit_at n k) 1
    by zero e lt = rw (mask, and_pow n k, e) (ap not (eq-eqb (0 * 2 ^ k) 0 (omega arith)))
    by (suc zero) e lt = rw (mask, and_pow n k, e) (ap not (ne_eqb (1 * 2 ^ k) 0 (λ z. absurd (omega (arith, pow_pos k)))))
    by (suc (suc b)) e lt = absurd (omega arith)

pub set_bit : (n k : ℕ) → k < 8 → bits_of 8 (bit_or n (1 * 2 ^ k % 256)) ≡ slice_set (bits_of 8 n) k true
set_bit n k lt =
    other_bit 8 (bit_or n (1 * 2 ^ k % 256)) n k true lt (ap (λ x. nat_eq x 1) (bit_at_set_same w8 n k lt)) (λ i below ne. bit_at_set_other w8 n k lt i ne)

pub cleared_bit : (n k : ℕ) → k < 8 → bits_of 8 (bit_and n (bit_not w8 (1 * 2 ^ k % 256))) ≡ slice_set (bits_of 8 n) k false
cleared_bit n k lt =
    other_bit 8 (bit_and n (bit_not w8 (1 * 2 ^ k % 256))) n k false lt (ap (λ x. nat_eq x 1) (bit_at_clear_same w8 n k lt)) (λ i below ne. bit_at_clear_other w8 n k lt i below ne)

-- the first bit that is set
first_bit : (count n t k : ℕ) → t < count → bit_at n t ≡ 1 → ((i : ℕ) → i < t → bit_at n i ≡ 0) → first_held (bits_of count n) k ≡ Some (k + t)
first_bit zero n t k lt is before = absurd (omega arith)
first_bit (suc count) n zero k lt is before = rw (sym (bit_at_lowest n) ∙ is) (ap Some (omega arith))
first_bit (suc count) n (suc t) k lt is before =
    rw (sym (bit_at_lowest n) ∙ before 0 (omega arith))
    (first_bit count (n / 2) t (suc k) (omega arith) (sym (bit_at-suc n t) ∙ is) (λ i lt. sym (bit_at-suc n i) ∙ before (suc i) (omega arith)) ∙ ap Some (omega arith))

pub lowest_bit : (n : ℕ) → 0 < n → n < 256 → first_held (bits_of 8 n) 0 ≡ Some (trailing_zeros w8 n)
lowest_bit n some lt = let h = bit_at-trailing_zeros w8 n some lt in first_bit 8 n (trailing_zeros w8 n) 0 h.0 h.1 h.2 ∙ ap Some (omega arith)
