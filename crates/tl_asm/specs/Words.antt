-- How a text is split into lines, and a line into words.
use Rattle.std.specs.Prelude.{◌≡◌, ℕ, List, [], ◌∷◌, length, Bool, ◌==◌, ◌||◌, not, Option, Some, None}
use Rattle.std.specs.List.{slice_split, filter, before_first}

abbrev pub Word : Type 0
Word = List ℕ

-- a text is split at each line feed
abbrev pub lines_of : List ℕ → List (List ℕ)
lines_of text = slice_split (λ b. b == 10) text

-- the line up to the first `;`
abbrev pub without_comment : List ℕ → List ℕ
without_comment line = before_first (λ b. b == 59) line

-- a space, a tab or a carriage return
abbrev pub is_blank : ℕ → Bool
is_blank b = (b == 32) || ((b == 9) || (b == 13))

-- the parts of the line between runs of blanks
unfoldable pub words_of : List ℕ → List Word
words_of line = filter (λ word. not (length word == 0)) (slice_split is_blank line)

-- the first word, and the words after it
abbrev pub first_of : List Word → Option (Word × List Word)
first_of [] = None
first_of (word ∷ words) = Some (word, words)

-- The result of a function, mapped by `view`, is the result of the specification.
abbrev pub Finds : {X Y : Type 0} → (X → Y) → Option X → Option Y → Type 0
Finds view None found = found ≡ None
Finds view (Some x) found = found ≡ Some (view x)
