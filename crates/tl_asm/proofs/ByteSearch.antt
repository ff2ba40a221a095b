-- The result of a search for a byte, which is the length if the byte doesn't occur, and how it splits words.
use Rattle.std.proofs.Common.{◌≡◌, ◌≢◌, ◌+◌, ℕ, suc, List, [], ◌∷◌, length, take, drop, refl, sym, ◌∙◌, ap, Option, Some, None, Bool, true, cond, not, ◌==◌, arith, inl, inr, nat_lt}
use Rattle.std.specs.Prelude.{unwrap_or}
use Rattle.std.specs.List.{position_or_len, slice_split, filter}
use Rattle.std.proofs.lemmas.Bool.{cases_Bool, ne_eqb}
use Rattle.std.proofs.lemmas.List.Folds.{length-prefix_len}
use Rattle.std.proofs.lemmas.List.Sums.{prefix_len-le-length}
use Rattle.std.proofs.lemmas.Bool.Decides.{nat_tests}
use Rattle.tl_asm.specs.Words.{Word, is_blank, words_of}

pub searched : (p : ℕ → Bool) (xs : List ℕ) (found : Option ℕ) (n : ℕ) → found ≡ cond (nat_lt (position_or_len p xs) (length xs)) (Some (position_or_len p xs)) None → n ≡ unwrap_or found (length xs) → n ≡ position_or_len p xs
searched p xs found n e u =
    let le = prefix_len-le-length (λ x. not (p x)) xs in
    elim (cases_Bool (nat_lt (position_or_len p xs) (length xs))) [
      | inl here ↦ u ∙ ap (λ (o : Option ℕ). unwrap_or o (length xs)) (e ∙ ap (λ (b : Bool). cond b (Some (position_or_len p xs)) None) here)
      | inr not_here ↦ u ∙ ap (λ (o : Option ℕ). unwrap_or o (length xs)) (e ∙ ap (λ (b : Bool). cond b (Some (position_or_len p xs)) None) not_here) ∙ grind (arith, nat_tests, le, not_here)
    ]

pub one_more : (n : ℕ) → 1 + n ≡ suc n
one_more n = omega arith

abbrev is_word : Word → Bool
is_word word = not (length word == 0)

-- the first part is what precedes the first blank, and the words of the other parts are those of the rest of the line
record FirstPart (line : List ℕ) : Type 0 where
  others : List (List ℕ)
  parts : slice_split is_blank line ≡ take (position_or_len is_blank line) line ∷ others
  words : filter is_word others ≡ filter is_word (slice_split is_blank (drop (position_or_len is_blank line) line))

first_part : (line : List ℕ) → FirstPart line
first_part [] = record { others = []; parts = refl; words = refl }
first_part (b ∷ line) =
    let ih = first_part line in
    elim (cases_Bool (is_blank b)) [
      | inl here ↦ record { others = slice_split is_blank line; parts = rw here refl; words = rw (here, here) refl }
      | inr not_here ↦ record { others = ih.others; parts = rw (not_here, ih.parts, one_more) refl; words = rw (not_here, one_more) ih.words }
    ]

abbrev indent : List ℕ → ℕ
indent line = position_or_len (λ b. not (is_blank b)) line

-- the blanks at the start of a line don't change its words
unindented : (line : List ℕ) → words_of (drop (indent line) line) ≡ words_of line
unfolding words_of
unindented [] = refl
unindented (b ∷ line) =
    elim (cases_Bool (is_blank b)) [
      | inl here ↦ rw (here, one_more) (unindented line)
      | inr not_here ↦ rw (not_here, not_here) refl
    ]

-- if no word follows these blanks, nothing does
nothing_left : (line : List ℕ) → position_or_len is_blank (drop (indent line) line) ≡ 0 → drop (indent line) line ≡ []
nothing_left [] e = refl
nothing_left (b ∷ line) e =
    elim (cases_Bool (is_blank b)) [
      | inl here ↦ let f = rw (here, one_more) at e in rw (here, one_more) (nothing_left line f)
      | inr not_here ↦ let f = rw (not_here, not_here) at e in absurd (omega (arith, f))
    ]

pub no_word : (line rest : List ℕ) (end : ℕ) → rest ≡ drop (indent line) line → end ≡ position_or_len is_blank rest → end ≡ 0 → words_of line ≡ []
unfolding words_of
no_word line rest end e at none =
    let left : position_or_len is_blank (drop (indent line) line) ≡ 0 = ap (position_or_len is_blank) (sym e) ∙ sym at ∙ none in
    sym (unindented line) ∙ ap words_of (nothing_left line left)

-- the words of a line whose first part isn't empty
begins : (rest : List ℕ) (end : ℕ) → end ≡ position_or_len is_blank rest → end ≢ 0 → words_of rest ≡ take end rest ∷ words_of (drop end rest)
unfolding words_of
begins rest end at some =
    let parts = first_part rest in
    let long : length (take end rest) ≡ end = ap (λ (n : ℕ). length (take n rest)) at ∙ length-prefix_len (λ b. not (is_blank b)) rest ∙ sym at in
    let word : is_word (take end rest) ≡ true = rw (long, ne_eqb end 0 some) refl in
    rw (parts.parts, ← at, word, parts.words, ← at) refl

pub a_word : (line rest : List ℕ) (end : ℕ) → rest ≡ drop (indent line) line → end ≡ position_or_len is_blank rest → end ≢ 0 → words_of line ≡ take end rest ∷ words_of (drop end rest)
a_word line rest end e at some = sym (unindented line) ∙ ap words_of (sym e) ∙ begins rest end at some
