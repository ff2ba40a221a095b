-- Decimal numbers.
use Rattle.std.proofs.Common.{◌≡◌, ℕ, ◌<◌, ◌^◌, List, [], ◌∷◌, length, refl, ap, true, false, Bool, ◌&&◌, ◌||◌, not, ◌==◌, None, Result, Ok, Err, arith, nat_lt, slice_index, inl, inr}
use Rattle.std.specs.Prelude.{MatchResult}
use Rattle.std.specs.Result.{result_ok}
use Rattle.std.specs.Char.{is_ascii_digit}
use Rattle.std.specs.List.{list_all}
use Rattle.std.specs.Str.{all_ascii_digits, IsUtf8}
use Rattle.std.specs.Str.Parse.{digits_value, ParsesUnsigned}
use Rattle.std.proofs.lemmas.Bool.{ltb-true, cases_lt}
use Rattle.std.proofs.lemmas.Bool.Decides.{nat_tests}
use Rattle.std.proofs.lemmas.Fmt.{IsAscii-from_digits}
use Rattle.std.proofs.lemmas.Str.{IsUtf8-from_ascii}
use Rattle.std.proofs.lemmas.Str.Parse.{IsNumeralModel, numerals_by_value, tells_all_ascii_digits, parse_digits}
use Rattle.tl_asm.specs.Tokens.{is_number, number_in}

pub all_digits : (word : List ℕ) → list_all is_ascii_digit word ≡ all_ascii_digits word
all_digits [] = refl
all_digits (b ∷ word) = ap (λ r. is_ascii_digit b && r) (all_digits word)

pub own : IsNumeralModel (λ ds. all_ascii_digits ds ≡ true) (digits_value 10)
own = numerals_by_value _ tells_all_ascii_digits

number_parts : (a b c : Bool) → (a && (b && c)) ≡ true → (a ≡ true) × (b ≡ true) × (c ≡ true)
number_parts true true true e = (refl, refl, refl)
number_parts true true false e = absurd (cc e)
number_parts true false c e = absurd (cc e)
number_parts false b c e = absurd (cc e)

pub is_digits : (word : List ℕ) → is_number word ≡ true → (0 < length word) × (all_ascii_digits word ≡ true) × (((length word == 1) || not (slice_index word 0 == 48)) ≡ true)
is_digits word e =
    let parts = number_parts (nat_lt 0 (length word)) (all_ascii_digits word) ((length word == 1) || not (slice_index word 0 == 48)) e in
    (ltb-true 0 (length word) parts.0, parts.1, parts.2)

pub is_text : (word : List ℕ) → is_number word ≡ true → IsUtf8 word
is_text word e = IsUtf8-from_ascii word (IsAscii-from_digits word (own.to word (is_digits word e).1))

-- a number that doesn't parse isn't below the limit
pub too_large : {E : Type 0} (limit : ℕ) (word : List ℕ) (r : Result ℕ E) → is_number word ≡ true → limit < 2 ^ 32 → ParsesUnsigned 32 10 word r → result_ok r ≡ None → number_in limit word ≡ None
unfolding number_in
too_large limit word (Ok n) e lt h none = absurd (cc none)
too_large limit word (Err err) e lt h none =
    let digits = is_digits word e in
    let large : ¬ ((0 < length word) × (digits_value 10 word < 2 ^ 32)) = parse_digits own 32 word (Err err) h digits.1 in
    elim (cases_lt (digits_value 10 word) limit) [
      | inl below ↦ absurd (large (digits.0, omega arith))
      | inr above ↦ let no : nat_lt (digits_value 10 word) limit ≡ false = grind (arith, nat_tests, above) in rw (e, no) refl
    ]

-- UTF-8 bytes are always read as a text
pub no_text : {T E : Type 0} (P : T → Type 0) (Q : E → Type 0) (word : List ℕ) (r : Result T E) → MatchResult r P (λ e. ¬ IsUtf8 word × Q e) → result_ok r ≡ None → IsUtf8 word → ⊥
no_text P Q word (Ok x) h none text = cc none
no_text P Q word (Err e) h none text = h.0 text
