-- What is computed for a written number is this number.
use Rattle.std.proofs.Common.{◌≡◌, ℕ, zero, suc, ◌<◌, ◌≤◌, ◌*◌, ◌/◌, ◌^◌, List, ℤ, pos, negsuc, neg_ℤ, ◌*ℤ◌, Some, refl, arith, div-le_self, div-mul-le_self}
use Rattle.std.specs.Prelude.{int_div}
use Rattle.std.proofs.lemmas.Bool.Decides.{nat_tests}
use Rattle.std.proofs.lemmas.Int.{quot-rem}
use Rattle.tl_machine.specs.Runs.{State}
use Rattle.tl_machine.specs.Alone.{fitting}
use Rattle.tl_lowering.specs.declared.program.Expression.{Expression}
use Rattle.tl_lowering.specs.Naming.{IsLiteral, short_number, long_number, calculated}
use Rattle.tl_meaning.specs.Meaning.{number}

below : (n : ℕ) → n < 2 ^ 63 → fitting (pos n) ≡ Some (pos n)
below n h = grind (arith, nat_tests, h)

-- minus a natural number that is no greater than 2 ^ 63
opposite_below : (n : ℕ) → n ≤ 2 ^ 63 → fitting (neg_ℤ (pos n)) ≡ Some (neg_ℤ (pos n))
opposite_below zero h = refl
opposite_below (suc n) h = grind (arith, nat_tests, h)

within : (n : ℕ) → fitting (pos n) ≡ Some (pos n) → n < 2 ^ 63
within n f = grind (arith, nat_tests, f)

within_opposite : (n : ℕ) → fitting (negsuc n) ≡ Some (negsuc n) → n < 2 ^ 63
within_opposite n f = grind (arith, nat_tests, f)

quotient_fits : (w : ℤ) → fitting w ≡ Some w → fitting (int_div w (pos 65536)) ≡ Some (int_div w (pos 65536))
quotient_fits (pos n) f = below (n / 65536) (omega (arith, within n f, div-le_self n 65536))
quotient_fits (negsuc n) f = opposite_below (suc n / 65536) (omega (arith, within_opposite n f, div-le_self (suc n) 65536))

product_opposite : (q : ℕ) → q * 65536 ≤ 2 ^ 63 → fitting (neg_ℤ (pos q) *ℤ pos 65536) ≡ Some (neg_ℤ (pos q) *ℤ pos 65536)
product_opposite zero h = refl
product_opposite (suc q) h = opposite_below (suc q * 65536) h

product_fits : (w : ℤ) → fitting w ≡ Some w → fitting (int_div w (pos 65536) *ℤ pos 65536) ≡ Some (int_div w (pos 65536) *ℤ pos 65536)
product_fits (pos n) f = below (n / 65536 * 65536) (omega (arith, within n f, div-mul-le_self n 65536))
product_fits (negsuc n) f = product_opposite (suc n / 65536) (omega (arith, within_opposite n f, div-mul-le_self (suc n) 65536))

pub literal_is : (parents : List ℕ) {w : ℤ} {e : Expression} (s : State) → IsLiteral w e → fitting w ≡ Some w → number parents e s ≡ Some w
literal_is parents s (short_number b) f = refl
literal_is parents {w} s (long_number b l calculated calculated) f =
    rw (literal_is parents s l (quotient_fits w f), product_fits w f, quot-rem w (pos 65536)) f
