-- Reading the digits of a number one by one.
use Rattle.std.proofs.Common.{◌≡◌, ℕ, ◌+◌, ◌*◌, ◌-◌, Bool, true, false, List, [], ◌∷◌, ◌++◌, refl, sym, ap, ap₂, append-nil, subst, ◌∙◌, arith}
use Rattle.std.specs.Prelude.{filter}
use Rattle.std.specs.Char.{is_ascii_digit, digit_value}
use Rattle.std.specs.Str.Parse.{digits_value}
use Rattle.std.proofs.lemmas.Bool.Decides.{nat_tests}
use Rattle.std.proofs.lemmas.Int.Digits.{digits_value_push}
use Rattle.std.proofs.lemmas.List.Elements.{filter-append}
use Rattle.tl_syntax.specs.Tokens.{AreGrouped, first_digit, next_digit, digit_apart}

-- nothing was read yet, or the bytes read end in a digit, or in a `_`
pub data HasRead : Bool → List ℕ → Type 0 where
  nothing_read : HasRead false []
  digit_read : {word : List ℕ} → AreGrouped word → HasRead true word
  gap_read : {word : List ℕ} → AreGrouped word → HasRead false (word ++ 95 ∷ [])

pub record IsReading (seen : List ℕ) (number : ℕ) (follows_digit : Bool) : Type 0 where
  pub read : HasRead follows_digit seen
  pub number_is : number ≡ digits_value 10 (filter is_ascii_digit seen)

digit_is : (b : ℕ) → is_ascii_digit b ≡ true → digit_value b ≡ b - 48
digit_is b e = grind (arith, nat_tests, e)

one_more : {seen : List ℕ} {follows : Bool} (b : ℕ) → HasRead follows seen → is_ascii_digit b ≡ true → AreGrouped (seen ++ b ∷ [])
one_more b nothing_read e = first_digit e
one_more b (digit_read h) e = next_digit b h e
one_more b (gap_read h) e = digit_apart b h e

kept : (seen : List ℕ) (b : ℕ) → is_ascii_digit b ≡ true → filter is_ascii_digit (seen ++ b ∷ []) ≡ filter is_ascii_digit seen ++ b ∷ []
kept seen b e = filter-append is_ascii_digit seen (b ∷ []) ∙ (rw e refl)

left_out : (seen : List ℕ) (b : ℕ) → is_ascii_digit b ≡ false → filter is_ascii_digit (seen ++ b ∷ []) ≡ filter is_ascii_digit seen
left_out seen b e = filter-append is_ascii_digit seen (b ∷ []) ∙ (rw e (append-nil (filter is_ascii_digit seen)))

pub reads_nothing : {seen : List ℕ} → seen ≡ [] → IsReading seen 0 false
reads_nothing e = subst (λ l. IsReading l 0 false) (sym e) (record { read = nothing_read; number_is = refl })

pub reads_digit : {seen more : List ℕ} {follows : Bool} (b n m : ℕ) → more ≡ seen ++ b ∷ [] → IsReading seen n follows → is_ascii_digit b ≡ true → m ≡ n * 10 + (b - 48) →
    IsReading more m true
reads_digit {seen} b n m is h e value =
    subst (λ l. IsReading l m true) (sym is) (record {
      read = digit_read (one_more b h.read e);
      number_is =
          value ∙ ap₂ (λ x y. x * 10 + y) h.number_is (sym (digit_is b e)) ∙ sym (digits_value_push 10 (filter is_ascii_digit seen) b) ∙ ap (digits_value 10) (sym (kept seen b e));
    })

pub reads_gap : {seen more : List ℕ} (b n : ℕ) → more ≡ seen ++ b ∷ [] → IsReading seen n true → b ≡ 95 → IsReading more n false
reads_gap {seen} b n is h e =
    subst (λ l. IsReading l n false) (sym (is ∙ ap (λ x. seen ++ x ∷ []) e)) (record {
      read = gap_read (grouped h.read);
      number_is = h.number_is ∙ ap (digits_value 10) (sym (left_out seen 95 refl));
    })
  where
    grouped : {word : List ℕ} → HasRead true word → AreGrouped word
    grouped (digit_read g) = g

pub read_digits : {seen : List ℕ} {n : ℕ} → IsReading seen n true → AreGrouped seen
read_digits h = by h.read
  where
    by : {word : List ℕ} → HasRead true word → AreGrouped word
    by (digit_read g) = g
