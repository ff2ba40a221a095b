-- The value with which the tokens of a text begin.
use Rattle.std.specs.Prelude.{◌≡◌, ◌<◌, ℕ, List, length, Option, Some}
use Rattle.json.specs.Token.{Token}
use Rattle.json.specs.Json.{value}
use Rattle.serde_json.specs.Data.{Data}
use Rattle.serde_json.specs.Read.{of_json, converted}

-- the tokens begin with a value of at most this depth, for which f returns a; the rest follows
pub record BeginsWith {A : Type 0} (f : Data → Option A) (depth : ℕ) (ts : List Token) (a : A) (rest : List Token) : Type 0 where
  pub found : Data
  pub is_value : converted of_json (value depth ts) ≡ Some (found, rest)
  pub stands : f found ≡ Some a
  pub shorter : length rest < length ts
