-- Requests as JSON values.
use Rattle.std.specs.Prelude.{ℕ, ℤ, List, [], ◌∷◌, Option, None, option_and_then, string_bytes}
use Rattle.serde_json.specs.Data.{Data}
use Rattle.serde_json.specs.Find.{as_str}
use Rattle.tl_tree.specs.Reading.{both, integers_of}
use Rattle.tl_json.specs.Lists.{list_of}
use Rattle.tl_procedures.specs.declared.request.Request.{Request}

-- the name and the arguments
abbrev pub request_form : Request → List ℕ × List ℤ
request_form x = (string_bytes x.name, x.args.items)

abbrev pub request_in : List Data → Option (List ℕ × List ℤ)
request_in (name ∷ args ∷ []) = both (as_str name) (integers_of args)
request_in _ = None

-- the name of a procedure, and arguments
abbrev pub request_of : Data → Option (List ℕ × List ℤ)
request_of d = option_and_then request_in (list_of d)
