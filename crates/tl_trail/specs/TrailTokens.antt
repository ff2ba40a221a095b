-- The members of a trail as tokens.
use Rattle.std.specs.Prelude.{ℕ, ◌≡◌, List, length, Some, None, option_and_then}
use Rattle.json.specs.Token.{Token}
use Rattle.json.specs.Json.{members, value}
use Rattle.serde_json.specs.Data.{Data, Members, object, no_members}
use Rattle.serde_json.specs.Read.{of_members, converted}
use Rattle.tl_tree.specs.declared.record.Width.{Width}
use Rattle.tl_tree.specs.declared.record.Width.TheVariants.{Wide, Narrow}
use Rattle.tl_tree.specs.Reading.{records_of}
use Rattle.tl_tree.specs.Trees.{TreeValue}
use Rattle.tl_trail.specs.declared.raw.RawTrail.{RawTrail}
use Rattle.tl_trail.specs.Raw.{IsHalfRead}
use Rattle.tl_trail.specs.Reading.{parts_of, form_of_parts}
use Rattle.tl_trail.specs.Tokens.{member_depth}

-- the tokens begin with the members of an object that is partly read as this, with this tree
pub record AreOfTrail (limit : ℕ) (ts : List Token) (tree : TreeValue) (raw : RawTrail) (rest : List Token) : Type 0 where
  pub found : Members
  pub are_members : converted (λ ms. of_members ms no_members) (members (value member_depth) (length ts) ts) ≡ Some (found, rest)
  pub half_read : IsHalfRead limit (option_and_then form_of_parts (parts_of (object found))) tree raw

-- a list's records may be narrow only if they can't be read as wide
abbrev pub IsFirstWidth : Data → Width → Type 0
IsFirstWidth d Wide = Unit {0}
IsFirstWidth d Narrow = records_of Wide d ≡ None
