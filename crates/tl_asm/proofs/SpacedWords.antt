-- Words that are written with spaces are read back.
use Rattle.std.proofs.Common.{◌≡◌, ℕ, ◌<◌, ◌≤◌, ◌^◌, List, [], ◌∷◌, ◌++◌, length, refl, sym, ◌∙◌, ap, arith, false, ◌==◌, append_assoc, map}
use Rattle.std.specs.List.{slice_split, AllByRecursion}
use Rattle.std.specs.Fmt.{decimal}
use Rattle.std.specs.Str.Parse.{AllDigits}
use Rattle.std.proofs.lemmas.Bool.{ne_eqb}
use Rattle.std.proofs.lemmas.Fmt.{digits_decimal}
use Rattle.std.proofs.lemmas.Str.Parse.{digit_from_value}
use Rattle.tl_asm.specs.Words.{Word, lines_of, without_comment, is_blank, words_of}
use Rattle.tl_asm.specs.Statements.{said_in}
use Rattle.tl_asm.specs.Texts.{statements}
use Rattle.tl_asm.specs.Listing.{line_of}
use Rattle.tl_asm.proofs.ByteSearch.{one_more}
use Rattle.tl_asm.proofs.DecimalNumbers.{own}

-- no `;` and no line feed
abbrev pub Plain : List ℕ → Type 0
Plain [] = Unit {0}
Plain (b ∷ bs) = ((b == 59) ≡ false) × ((b == 10) ≡ false) × Plain bs

-- no blank either
abbrev pub Clean : List ℕ → Type 0
Clean [] = Unit {0}
Clean (b ∷ bs) = (is_blank b ≡ false) × ((b == 59) ≡ false) × ((b == 10) ≡ false) × Clean bs

abbrev pub IsCleanWord : Word → Type 0
IsCleanWord [] = ⊥
IsCleanWord (b ∷ bs) = Clean (b ∷ bs)

plain_clean : (w : Word) → Clean w → Plain w
plain_clean [] h = tt
plain_clean (b ∷ w) h = (h.1, h.2, plain_clean w h.3)

pub clean_digits : (ds : List ℕ) → AllDigits 10 ds → Clean ds
clean_digits [] h = tt
clean_digits (d ∷ ds) h =
    let range = digit_from_value d h.0 in
    let low : 48 ≤ d = range.0 in (
      rw (ne_eqb d 32 (λ e. omega (arith, e)), ne_eqb d 9 (λ e. omega (arith, e)), ne_eqb d 13 (λ e. omega (arith, e))) refl,
      ne_eqb d 59 (λ e. let high = range.1 in omega (arith, e)),
      ne_eqb d 10 (λ e. omega (arith, e)),
      clean_digits ds h.1,
    )

pub clean_decimal : (n : ℕ) → n < 2 ^ 64 → Clean (decimal n)
clean_decimal n lt = clean_digits (decimal n) (own.to (decimal n) (digits_decimal own n lt))

split_clean : (w : Word) → Clean w → slice_split is_blank w ≡ w ∷ []
split_clean [] h = refl
split_clean (b ∷ w) h = rw (h.0, split_clean w h.3) refl

split_front : (w : Word) (rest : List ℕ) → Clean w → slice_split is_blank (w ++ 32 ∷ rest) ≡ w ∷ slice_split is_blank rest
split_front [] rest h = refl
split_front (b ∷ w) rest h = rw (h.0, split_front w rest h.3) refl

-- words separated by one space
abbrev pub spaced : List Word → List ℕ
spaced [] = []
spaced (word ∷ []) = word
spaced (word ∷ next ∷ words) = word ++ 32 ∷ spaced (next ∷ words)

longer : (b : ℕ) (w : Word) → (length (b ∷ w) == 0) ≡ false
longer b w = ne_eqb (length (b ∷ w)) 0 (λ e. omega (arith, e))

words_spaced : (ws : List Word) → AllByRecursion IsCleanWord ws → words_of (spaced ws) ≡ ws
unfolding words_of
words_spaced [] h = refl
words_spaced ([] ∷ ws) h = absurd h.0
words_spaced ((b ∷ w) ∷ []) h = rw (split_clean (b ∷ w) h.0, longer b w) refl
words_spaced ((b ∷ w) ∷ next ∷ ws) h = rw (split_front (b ∷ w) (spaced (next ∷ ws)) h.0, longer b w) (ap (λ (rest : List Word). (b ∷ w) ∷ rest) (words_spaced (next ∷ ws) h.1))

plain_append : (xs ys : List ℕ) → Plain xs → Plain ys → Plain (xs ++ ys)
plain_append [] ys h k = k
plain_append (x ∷ xs) ys h k = (h.0, h.1, plain_append xs ys h.2 k)

clean_word : (w : Word) → IsCleanWord w → Clean w
clean_word [] h = absurd h
clean_word (b ∷ w) h = h

plain_spaced : (ws : List Word) → AllByRecursion IsCleanWord ws → Plain (spaced ws)
plain_spaced [] h = tt
plain_spaced (w ∷ []) h = plain_clean w (clean_word w h.0)
plain_spaced (w ∷ next ∷ ws) h = plain_append w (32 ∷ spaced (next ∷ ws)) (plain_clean w (clean_word w h.0)) (refl, refl, plain_spaced (next ∷ ws) h.1)

no_comment : (line : List ℕ) → Plain line → without_comment line ≡ line
no_comment [] h = refl
no_comment (b ∷ line) h = rw (h.0, one_more) (ap (λ (rest : List ℕ). b ∷ rest) (no_comment line h.2))

split_line : (line rest : List ℕ) → Plain line → lines_of (line ++ 10 ∷ rest) ≡ line ∷ lines_of rest
split_line [] rest h = refl
split_line (b ∷ line) rest h = rw (h.1, split_line line rest h.2) refl

line_is : (ws : List Word) → line_of ws ≡ spaced ws ++ 10 ∷ []
line_is [] = refl
line_is (w ∷ []) = refl
line_is (w ∷ next ∷ ws) = ap (λ (rest : List ℕ). w ++ 32 ∷ rest) (line_is (next ∷ ws)) ∙ sym (append_assoc w (32 ∷ spaced (next ∷ ws)) (10 ∷ []))

-- the statements of a line of words followed by other lines
pub line_says : (ws : List Word) (rest : List ℕ) → AllByRecursion IsCleanWord ws → statements (line_of ws ++ rest) ≡ said_in ws ∷ statements rest
line_says ws rest h =
    ap (λ (line : List ℕ). statements (line ++ rest)) (line_is ws)
    ∙ ap statements (append_assoc (spaced ws) (10 ∷ []) rest)
    ∙ ap (map (λ line. said_in (words_of (without_comment line)))) (split_line (spaced ws) rest (plain_spaced ws h))
    ∙ ap (λ (line : List ℕ). said_in (words_of line) ∷ statements rest) (no_comment (spaced ws) (plain_spaced ws h))
    ∙ ap (λ (words : List Word). said_in words ∷ statements rest) (words_spaced ws h)
