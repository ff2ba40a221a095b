-- What a list of tokens begins with.
use Rattle.std.specs.Prelude.{◌≡◌, ◌<◌, ℕ, List, length, Option, Some}
use Rattle.json.specs.Token.{Token}
use Rattle.json.specs.Json.{items, read_key, value}
use Rattle.serde_json.specs.Data.{Data, Items}
use Rattle.serde_json.specs.Read.{of_items, converted}
use Rattle.tl_tree.specs.Reading.{each_item}
use Rattle.tl_tokens.specs.Tokens.{BeginsWith}

-- the largest nesting depth of a trail in a chain, of a trail's member, and of a member's item; a text nests at most 127 deep
abbrev pub trail_depth : ℕ
trail_depth = 126

abbrev pub member_depth : ℕ
member_depth = 125

abbrev pub item_depth : ℕ
item_depth = 124

-- the tokens begin with items up to the end of their list, for which f returns these results
pub record BeginsWithItems {A : Type 0} (f : Data → Option A) (ts : List Token) (each : List A) (rest : List Token) : Type 0 where
  pub found : Items
  pub are_items : converted of_items (items (value item_depth) (length ts) ts) ≡ Some (found, rest)
  pub stand : each_item f found ≡ Some each
  pub shorter : length rest < length ts

-- the tokens begin with a name and a value for which f returns a
pub record BeginsWithMember {A : Type 0} (name : List ℕ) (f : Data → Option A) (ts : List Token) (a : A) (rest : List Token) : Type 0 where
  pub behind : List Token
  pub named : read_key ts ≡ Some (Some name, behind)
  pub member : BeginsWith f member_depth behind a rest
