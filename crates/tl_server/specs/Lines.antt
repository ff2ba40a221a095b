-- The lines of an input, by recursion on its bytes.
use Rattle.std.specs.Prelude.{◌≢◌, ℕ, ◌==◌, if◌then◌else◌, List, [], ◌∷◌, ◌++◌}

-- puts the byte in front of the first line
abbrev pub onto_first : ℕ → List (List ℕ) → List (List ℕ)
onto_first b [] = (b ∷ []) ∷ []
onto_first b (l ∷ ls) = (b ∷ l) ∷ ls

-- the lines of the input without their line feeds; remaining bytes after the last line feed are a line
abbrev pub lines_of : List ℕ → List (List ℕ)
lines_of [] = []
lines_of (b ∷ bs) = if b == 10 then [] ∷ lines_of bs else onto_first b (lines_of bs)

-- the bytes contain no line feed
abbrev pub HasNoLf : List ℕ → Type 0
HasNoLf [] = Unit {0}
HasNoLf (b ∷ bs) = (b ≢ 10) × HasNoLf bs

-- these lines, each followed by a line feed
abbrev pub with_lfs : List (List ℕ) → List ℕ
with_lfs [] = []
with_lfs (l ∷ ls) = l ++ 10 ∷ with_lfs ls

abbrev pub NoLfs : List (List ℕ) → Type 0
NoLfs [] = Unit {0}
NoLfs (l ∷ ls) = HasNoLf l × NoLfs ls
