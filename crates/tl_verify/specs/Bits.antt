-- Numbers as lists of bits.
use Rattle.std.proofs.Common.{◌≡◌, ℕ, zero, suc, ◌+◌, ◌*◌, ◌/◌, ◌%◌, ◌^◌, ◌<◌, List, [], ◌∷◌, Bool, true, false, refl, arith}
use Rattle.std.specs.Prelude.{nat_eq}
use Rattle.std.proofs.lemmas.Bool.{eqb-true, eqb-false}
use Rattle.std.proofs.Math.Nat.{two-pow-succ}

-- the lowest `count` bits of a number, the lowest first
abbrev pub bits_of : ℕ → ℕ → List Bool
bits_of zero n = []
bits_of (suc count) n = nat_eq (n % 2) 1 ∷ bits_of count (n / 2)

-- the number with these bits
abbrev pub number_of : List Bool → ℕ
number_of [] = 0
number_of (true ∷ bs) = 2 * number_of bs + 1
number_of (false ∷ bs) = 2 * number_of bs

-- a number below 2 ^ count is the number of its lowest `count` bits
pub number_of_bits : (count n : ℕ) → n < 2 ^ count → number_of (bits_of count n) ≡ n
number_of_bits zero n lt = omega arith
number_of_bits (suc count) n lt = by (nat_eq (n % 2) 1) refl (number_of_bits count (n / 2) (omega (arith, two-pow-succ count)))
  where
    by : (b : Bool) → nat_eq (n % 2) 1 ≡ b → number_of (bits_of count (n / 2)) ≡ n / 2 → number_of (b ∷ bits_of count (n / 2)) ≡ n
    by true e rest = let h = eqb-true (n % 2) 1 e in omega arith
    by false e rest = let h = eqb-false (n % 2) 1 e in omega arith
