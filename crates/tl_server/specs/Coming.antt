-- How the next line of an input is read.
use Rattle.std.specs.Prelude.{◌≡◌, ◌<◌, ℕ, List, [], ◌∷◌, ◌++◌, Option, Some, length, take, Bool, true, false}
use Rattle.tl_server.specs.declared.reader.Came.{Came}
use Rattle.tl_server.specs.declared.reader.Came.TheVariants.{Whole, Rest, End}
use Rattle.tl_server.specs.declared.reader.TheConstants.{HELD}
use Rattle.tl_server.specs.Lines.{HasNoLf}

-- the state of a reader: the bytes of the current piece that aren't scanned yet, and the line so far
pub record ReaderValue : Type 0 where
  pub left : List ℕ
  pub held : List ℕ

-- the part of a line that is kept: its first 65,537 bytes, enough to detect a line that is too long
abbrev pub held_of : List ℕ → List ℕ
held_of line = take HELD line

-- scans the piece up to its next line feed, if there is one, and adds the bytes before it to the line
abbrev pub Scans : ReaderValue → Bool → ReaderValue → Type 0
Scans old true new = (q : List ℕ) × HasNoLf q × (old.left ≡ q ++ 10 ∷ new.left) × (new.held ≡ held_of (old.held ++ q))
Scans old false new = HasNoLf old.left × (new.left ≡ []) × (new.held ≡ held_of (old.held ++ old.left))

-- the next line of these bytes; afterwards r has the rest of the piece, and `input` the bytes not yet read
abbrev pub Comes : List ℕ → Came → ReaderValue → Option (List ℕ) → Type 0
Comes bytes Whole r input =
    (l : List ℕ) × (unread : List ℕ) × HasNoLf l × (r.held ≡ held_of l) × (input ≡ Some unread) × (bytes ≡ l ++ 10 ∷ (r.left ++ unread))
Comes bytes Rest r input = HasNoLf bytes × (0 < length bytes) × (r.held ≡ held_of bytes)
Comes bytes End r input = bytes ≡ []

-- a read failed within a line
abbrev pub Breaks : List ℕ → Option (List ℕ) → Type 0
Breaks bytes input = (rest : List ℕ) × (unread : List ℕ) × HasNoLf rest × (input ≡ Some unread) × (bytes ≡ rest ++ unread)
