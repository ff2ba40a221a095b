-- Numbers that are written, in parts of 32 bits.
use Rattle.std.proofs.Common.{◌≡◌, ◌∙◌, ℕ, zero, suc, ◌<◌, ◌≤◌, ◌*◌, ◌/◌, ◌^◌, Bool, true, false, ℤ, pos, negsuc, neg_ℤ, refl, sym, ap, subst, w32, w64, arith, div-mul-le_self}
use Rattle.std.specs.Prelude.{nat_abs, nat_lt, int_div, int_rem, FitsSigned}
use Rattle.std.proofs.lemmas.Bool.Decides.{nat_tests}
use lib.Signed.{◌<ℤ◌}
use Rattle.std.proofs.lemmas.Int.{rem_below, fits_signed_from_abs}
use Rattle.tl_syntax.specs.declared.operator.Operator.TheVariants as O
use Rattle.tl_lowering.specs.declared.program.Expression.{Expression}
use Rattle.tl_lowering.specs.declared.program.Expression.TheVariants as E
use Rattle.tl_lowering.specs.Naming.{is_narrow, IsLiteral, short_number, long_number, IsCalculated}

pub rest_fits : (w : ℤ) → FitsSigned w32 (int_rem w (pos 65536))
rest_fits w = fits_signed_from_abs w32 (int_rem w (pos 65536)) (omega (arith, rem_below w (pos 65536) (omega arith)))

pub base_fits : FitsSigned w64 (pos 65536)
base_fits = record { sfits = omega arith }

pub base_above : pos 0 <ℤ pos 65536
base_above = record { lt = tt }

-- the quotient of a number that isn't narrow is nearer to 0
nearer : (n q : ℕ) → q * 65536 ≤ n → 0 < n → q < n
nearer n q h p = omega arith

abs_opposite : (n : ℕ) → nat_abs (neg_ℤ (pos n)) ≡ n
abs_opposite zero = refl
abs_opposite (suc n) = refl

pub falls : (w : ℤ) → is_narrow w ≡ false → nat_abs (int_div w (pos 65536)) < nat_abs w
falls (pos zero) f = grind (arith, nat_tests, f)
falls (pos (suc n)) f = nearer (suc n) (suc n / 65536) (div-mul-le_self (suc n) 65536) (omega arith)
falls (negsuc n) f = omega (arith, abs_opposite (suc n / 65536), nearer (suc n) (suc n / 65536) (div-mul-le_self (suc n) 65536) (omega arith))

-- ---- whether a number has 32 bits

pub narrow_of : (w : ℤ) → FitsSigned w32 w → is_narrow w ≡ true
narrow_of (pos n) f = grind (arith, nat_tests, f.sfits)
narrow_of (negsuc n) f = grind (arith, nat_tests, f.sfits)

not_true : (b : Bool) → (b ≡ true → ⊥) → b ≡ false
not_true true f = absurd (f refl)
not_true false f = refl

pub wide_of : (w : ℤ) → (FitsSigned w32 w → ⊥) → is_narrow w ≡ false
wide_of (pos n) f = not_true (nat_lt n (2 ^ 31)) (λ e. f (record { sfits = grind (arith, nat_tests, e) }))
wide_of (negsuc n) f = not_true (nat_lt n (2 ^ 31)) (λ e. f (record { sfits = grind (arith, nat_tests, e) }))

pub short_of : {w v : ℤ} → v ≡ w → FitsSigned w32 w → IsLiteral w (E.Constant v)
short_of {w} e f = subst (λ z. IsLiteral w (E.Constant z)) (sym e) (short_number (narrow_of w f))

pub long_of : {w q r : ℤ} {a b e : Expression} → is_narrow w ≡ false → q ≡ int_div w (pos 65536) → r ≡ int_rem w (pos 65536) → IsLiteral q a → IsCalculated O.Multiply a (E.Constant (pos 65536)) b
    → IsCalculated O.Add b (E.Constant r) e → IsLiteral w e
long_of {a = a} {b = b} {e = e} n f g l c d = long_number n (subst (λ z. IsLiteral z a) f l) c (subst (λ z. IsCalculated O.Add b (E.Constant z) e) g d)
