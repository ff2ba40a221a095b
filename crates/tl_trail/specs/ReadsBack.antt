-- Data that is read back from its text.
use Rattle.std.specs.Prelude.{◌≡◌, ◌++◌, ℕ, List, Some}
use Rattle.json.specs.Tree.{HasNumbers}
use Rattle.serde_json.specs.Data.{Data}
use Rattle.serde_json.specs.Read.{of_json}
use Rattle.serde_json.specs.Written.{outline, compact_text}

-- the numbers are written as numbers, and what is written denotes the data
pub record IsReadBack (d : Data) : Type 0 where
  pub numbers : HasNumbers (outline d)
  pub same : of_json (outline d) ≡ Some d

-- the data's text was appended, and reading it gives the data
pub record Adds (old new : List ℕ) (d : Data) : Type 0 where
  pub text : new ≡ old ++ compact_text d
  pub back : IsReadBack d
