-- Replies as JSON values.
use Rattle.std.specs.Prelude.{ℤ, List, length, nat_le, Option, Some, None, option_map, option_and_then, is_some, if◌then◌else◌}
use Rattle.serde_json.specs.Data.{Data, null}
use Rattle.serde_json.specs.Find.{as_null}
use Rattle.tl_tree.specs.Reading.{integers_of}
use Rattle.tl_tree.specs.Writing.{integers_data}

abbrev pub if_reply : List ℤ → Option (List ℤ)
if_reply numbers = if nat_le (length numbers) 32 then Some numbers else None

-- null, or a list of at most 32 numbers
abbrev pub reply_of : Data → Option (Option (List ℤ))
reply_of d = if is_some (as_null d) then Some None else option_map Some (option_and_then if_reply (integers_of d))

abbrev pub reply_data : Option (List ℤ) → Data
reply_data None = null
reply_data (Some values) = integers_data values
