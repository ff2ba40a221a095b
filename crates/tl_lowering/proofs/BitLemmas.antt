-- Sets of registers as the bits of a byte.
use Rattle.std.proofs.Common.{◌≡◌, ◌≢◌, ℕ, zero, suc, ◌-◌, ◌*◌, ◌^◌, ◌%◌, ◌<◌, ◌≤◌, [], ◌∷◌, length, Bool, true, false, ◌&&◌, refl, sym, ap, ap₂, ◌∙◌, arith, w8, bit_and, bit_or, min, pow_pos, pow_mono, ◌⊎◌, inl, inr}
use Rattle.std.specs.Prelude.{nat_eq, not, ◌||◌, max, slice_set}
use Rattle.std.specs.Int.{bit_at, bit_not}
use Rattle.std.proofs.lemmas.Bool.{eq-eqb, ne_eqb, cases_eq, cases_lt}
use Rattle.std.proofs.lemmas.List.{get_or_past, get_or-set_same, get_or-set_other, length-set}
use Rattle.std.proofs.lemmas.List.FromFn.{get_or-map-range_with_len, length-map-range_with_len}
use Rattle.std.proofs.lemmas.Nat.Bits.{bit_at-lt, bit_at-zero, bit_at_and, bit_at_or, bit_at_not, and_pow, bit_at_set_same, bit_at_set_other, bit_at_clear_same, bit_at_clear_other}
use Rattle.std.proofs.Math.Nat.{two-pow-succ}
use Rattle.tl_lowering.specs.Sets.{Nodes, none_held, holds, with_node, without_node, both, minus}
use Rattle.tl_lowering.specs.Paths.{bits}
use Rattle.tl_lowering.specs.Passing.{registers}
use Rattle.tl_lowering.proofs.SetLemmas.{all_held, holds_both, length_both, holds_minus, length_minus}

pub length_bits : (m : ℕ) → length (bits m) ≡ 8
unfolding bits
length_bits m = length-map-range_with_len (λ n. nat_eq (bit_at m n) 1) 0 8

bit_holds : (m i : ℕ) → i < 8 → holds (bits m) i ≡ nat_eq (bit_at m i) 1
unfolding bits
bit_holds m i lt = get_or-map-range_with_len (λ n. nat_eq (bit_at m n) 1) 0 8 i i false lt (omega arith)

bit_past : (m i : ℕ) → 8 ≤ i → holds (bits m) i ≡ false
bit_past m i le = get_or_past (bits m) i false (omega (arith, length_bits m))

length_registers : (f : ℕ → Bool) → length (registers f) ≡ 8
length_registers f = length-map-range_with_len f 0 8

among_registers : (f : ℕ → Bool) (i : ℕ) → i < 8 → holds (registers f) i ≡ f i
among_registers f i lt = get_or-map-range_with_len f 0 8 i i false lt (omega arith)

past_registers : (f : ℕ → Bool) (i : ℕ) → 8 ≤ i → holds (registers f) i ≡ false
past_registers f i le = get_or_past (registers f) i false (omega (arith, length_registers f))

pub same_registers : (f g : ℕ → Bool) → ((n : ℕ) → f n ≡ g n) → registers f ≡ registers g
same_registers f g same = all_held (registers f) (registers g) (length_registers f ∙ sym (length_registers g)) (λ i. by i (cases_lt i 8))
  where
    by : (i : ℕ) → (i < 8) ⊎ (8 ≤ i) → holds (registers f) i ≡ holds (registers g) i
    by i (inl lt) = among_registers f i lt ∙ same i ∙ sym (among_registers g i lt)
    by i (inr past) = past_registers f i past ∙ sym (past_registers g i past)

pub bits_are : (m : ℕ) (f : ℕ → Bool) → ((n : ℕ) → holds (bits m) n ≡ f n) → bits m ≡ registers f
bits_are m f same = all_held (bits m) (registers f) (length_bits m ∙ sym (length_registers f)) (λ i. by i (cases_lt i 8))
  where
    by : (i : ℕ) → (i < 8) ⊎ (8 ≤ i) → holds (bits m) i ≡ holds (registers f) i
    by i (inl lt) = same i ∙ sym (among_registers f i lt)
    by i (inr past) = bit_past m i past ∙ sym (past_registers f i past)

pub no_bits : bits 0 ≡ none_held
unfolding bits
no_bits = refl

-- bytes whose bits are equal except for one
other_bit : (m n k : ℕ) (b : Bool) → k < 8 → nat_eq (bit_at m k) 1 ≡ b → ((i : ℕ) → i < 8 → i ≢ k → bit_at m i ≡ bit_at n i)
    → bits m ≡ slice_set (bits n) k b
other_bit m n k b lt is others =
    all_held (bits m) (slice_set (bits n) k b) (length_bits m ∙ sym (length-set (bits n) k b ∙ length_bits n)) (λ i. by i (cases_lt i 8) (cases_eq i k))
  where
    by : (i : ℕ) → (i < 8) ⊎ (8 ≤ i) → (i ≡ k) ⊎ (i ≢ k) → holds (bits m) i ≡ holds (slice_set (bits n) k b) i
    by i (inl below) (inl e) = rw e (bit_holds m k lt ∙ is ∙ sym (get_or-set_same (bits n) k b false (omega (arith, length_bits n))))
    by i (inl below) (inr ne) =
        bit_holds m i below ∙ ap (λ x. nat_eq x 1) (others i below ne) ∙ sym (bit_holds n i below) ∙ sym (get_or-set_other (bits n) k i b false ne)
    by i (inr past) (inl e) = absurd (omega arith)
    by i (inr past) (inr ne) = bit_past m i past ∙ sym (bit_past n i past) ∙ sym (get_or-set_other (bits n) k i b false ne)

pub mask : (k : ℕ) → k < 8 → 1 * 2 ^ k % 256 ≡ 2 ^ k
mask k lt = let small : 2 ^ k < 256 = omega (arith, two-pow-succ k, pow_pos k, pow_mono {i = suc k} {j = 8} (omega arith)) in omega arith

-- the test of a bit
pub tested : (n k : ℕ) → k < 8 → not (nat_eq (bit_and n (2 ^ k)) 0) ≡ holds (bits n) k
tested n k lt = by (bit_at n k) refl (bit_at-lt n k) ∙ sym (bit_holds n k lt)
  where
    by : (b : ℕ) → bit_at n k ≡ b → bit_at n k < 2 → not (nat_eq (bit_and n (2 ^ k)) 0) ≡ nat_eq (bit_at n k) 1
    by zero e lt = rw (and_pow n k, e) (ap not (eq-eqb (0 * 2 ^ k) 0 (omega arith)))
    by (suc zero) e lt = rw (and_pow n k, e) (ap not (ne_eqb (1 * 2 ^ k) 0 (λ z. absurd (omega (arith, pow_pos k)))))
    by (suc (suc b)) e lt = absurd (omega arith)

pub set_bit : (n k : ℕ) → k < 8 → bits (bit_or n (2 ^ k)) ≡ with_node (bits n) k
set_bit n k lt =
    rw (← mask k lt)
    (other_bit (bit_or n (1 * 2 ^ k % 256)) n k true lt (ap (λ x. nat_eq x 1) (bit_at_set_same w8 n k lt)) (λ i below ne. bit_at_set_other w8 n k lt i ne))

pub cleared_bit : (n k : ℕ) → k < 8 → bits (bit_and n (bit_not w8 (2 ^ k))) ≡ without_node (bits n) k
cleared_bit n k lt =
    rw (← mask k lt)
    (other_bit (bit_and n (bit_not w8 (1 * 2 ^ k % 256))) n k false lt (ap (λ x. nat_eq x 1) (bit_at_clear_same w8 n k lt)) (λ i below ne. bit_at_clear_other w8 n k lt i below ne))

min_both : (x y : ℕ) → x < 2 → y < 2 → nat_eq (min x y) 1 ≡ nat_eq x 1 && nat_eq y 1
min_both zero zero a b = refl
min_both zero (suc zero) a b = refl
min_both (suc zero) zero a b = refl
min_both (suc zero) (suc zero) a b = refl
min_both (suc (suc x)) y a b = absurd (omega arith)
min_both x (suc (suc y)) a b = absurd (omega arith)

pub both_bits : (m n : ℕ) → bits (bit_and m n) ≡ both (bits m) (bits n)
both_bits m n =
    all_held (bits (bit_and m n)) (both (bits m) (bits n)) (length_bits (bit_and m n) ∙ sym (length_both (bits m) (bits n) 8 (length_bits m) (length_bits n))) (λ i. by i (cases_lt i 8))
  where
    by : (i : ℕ) → (i < 8) ⊎ (8 ≤ i) → holds (bits (bit_and m n)) i ≡ holds (both (bits m) (bits n)) i
    by i (inl lt) =
        bit_holds (bit_and m n) i lt ∙ ap (λ x. nat_eq x 1) (bit_at_and m n i) ∙ min_both (bit_at m i) (bit_at n i) (bit_at-lt m i) (bit_at-lt n i)
        ∙ sym (holds_both (bits m) (bits n) i ∙ ap₂ (λ x y. x && y) (bit_holds m i lt) (bit_holds n i lt))
    by i (inr past) = bit_past (bit_and m n) i past ∙ sym (holds_both (bits m) (bits n) i ∙ ap (λ x. x && holds (bits n) i) (bit_past m i past))

min_minus : (x y : ℕ) → x < 2 → y < 2 → nat_eq (min x (1 - y)) 1 ≡ nat_eq x 1 && not (nat_eq y 1)
min_minus zero zero a b = refl
min_minus zero (suc zero) a b = refl
min_minus (suc zero) zero a b = refl
min_minus (suc zero) (suc zero) a b = refl
min_minus (suc (suc x)) y a b = absurd (omega arith)
min_minus x (suc (suc y)) a b = absurd (omega arith)

pub minus_bits : (m n : ℕ) → n < 256 → bits (bit_and m (bit_not w8 n)) ≡ minus (bits m) (bits n)
minus_bits m n fits =
    all_held (bits (bit_and m (bit_not w8 n))) (minus (bits m) (bits n))
    (length_bits (bit_and m (bit_not w8 n)) ∙ sym (length_minus (bits m) (bits n) 8 (length_bits m) (length_bits n))) (λ i. by i (cases_lt i 8))
  where
    by : (i : ℕ) → (i < 8) ⊎ (8 ≤ i) → holds (bits (bit_and m (bit_not w8 n))) i ≡ holds (minus (bits m) (bits n)) i
    by i (inl lt) =
        bit_holds (bit_and m (bit_not w8 n)) i lt
        ∙ ap (λ x. nat_eq x 1) (bit_at_and m (bit_not w8 n) i ∙ ap (min (bit_at m i)) (bit_at_not w8 n i fits lt))
        ∙ min_minus (bit_at m i) (bit_at n i) (bit_at-lt m i) (bit_at-lt n i)
        ∙ sym (holds_minus (bits m) (bits n) i (length_bits m ∙ sym (length_bits n)) ∙ ap₂ (λ x y. x && not y) (bit_holds m i lt) (bit_holds n i lt))
    by i (inr past) =
        bit_past (bit_and m (bit_not w8 n)) i past
        ∙ sym (holds_minus (bits m) (bits n) i (length_bits m ∙ sym (length_bits n)) ∙ ap (λ x. x && not (holds (bits n) i)) (bit_past m i past))

set_again : (h : Nodes) (n : ℕ) (a b : Bool) → slice_set (slice_set h n a) n b ≡ slice_set h n b
set_again [] n a b = refl
set_again (x ∷ h) zero a b = refl
set_again (x ∷ h) (suc n) a b = ap (λ z. x ∷ z) (set_again h n a b)

pub taken_over : (h : Nodes) (n : ℕ) (b : Bool) (now : Nodes) → now ≡ without_node h n → b ≡ true → with_node now n ≡ slice_set h n b
taken_over h n b now e f = ap (λ z. with_node z n) e ∙ set_again h n false true ∙ ap (slice_set h n) (sym f)

max_or : (x y : ℕ) → x < 2 → y < 2 → nat_eq (max x y) 1 ≡ (nat_eq x 1 || nat_eq y 1)
max_or zero zero a b = refl
max_or zero (suc zero) a b = refl
max_or (suc zero) zero a b = refl
max_or (suc zero) (suc zero) a b = refl
max_or (suc (suc x)) y a b = absurd (omega arith)
max_or x (suc (suc y)) a b = absurd (omega arith)

pub either_bits : (m n i : ℕ) → holds (bits (bit_or m n)) i ≡ (holds (bits m) i || holds (bits n) i)
either_bits m n i = by (cases_lt i 8)
  where
    by : (i < 8) ⊎ (8 ≤ i) → holds (bits (bit_or m n)) i ≡ (holds (bits m) i || holds (bits n) i)
    by (inl lt) =
        bit_holds (bit_or m n) i lt ∙ ap (λ x. nat_eq x 1) (bit_at_or m n i) ∙ max_or (bit_at m i) (bit_at n i) (bit_at-lt m i) (bit_at-lt n i)
        ∙ sym (ap₂ (λ x y. x || y) (bit_holds m i lt) (bit_holds n i lt))
    by (inr past) = bit_past (bit_or m n) i past ∙ sym (ap₂ (λ x y. x || y) (bit_past m i past) (bit_past n i past))

pub no_bit : (i : ℕ) → holds (bits 0) i ≡ false
no_bit i = by (cases_lt i 8)
  where
    by : (i < 8) ⊎ (8 ≤ i) → holds (bits 0) i ≡ false
    by (inl lt) = bit_holds 0 i lt ∙ ap (λ x. nat_eq x 1) (bit_at-zero i)
    by (inr past) = bit_past 0 i past

pub one_bit : (nodes : Nodes) (k i : ℕ) → k < 8 → nodes ≡ with_node (bits 0) k → holds nodes i ≡ nat_eq k i
one_bit nodes k i lt e = ap (λ z. holds z i) e ∙ by (cases_eq i k)
  where
    by : (i ≡ k) ⊎ (i ≢ k) → holds (with_node (bits 0) k) i ≡ nat_eq k i
    by (inl f) = ap (λ z. holds (with_node (bits 0) k) z) f ∙ get_or-set_same (bits 0) k true false (omega (arith, length_bits 0)) ∙ sym (eq-eqb k i (sym f))
    by (inr ne) = get_or-set_other (bits 0) k i true false ne ∙ no_bit i ∙ sym (ne_eqb k i (λ f. ne (sym f)))
