-- How a tree is written as a JSON value and as text.
use Rattle.std.specs.Prelude.{ℕ, ℤ, pos, List, ◌++◌, map, codes, decimal}
use Rattle.std.specs.Fmt.{signed_decimal}
use Rattle.std.specs.List.{join_with_byte}
use Rattle.serde_json.specs.Data.{Data, no_members, member, number, array, object}
use Rattle.serde_json.specs.Find.{of_integer}
use Rattle.serde_json.specs.View.{items_of}
use Rattle.tl_tree.specs.Records.{Record, Records}
use Rattle.tl_tree.specs.Trees.{TreeValue}

abbrev pub integer_data : ℤ → Data
integer_data z = number (of_integer z)

abbrev pub integers_data : List ℤ → Data
integers_data zs = array (items_of (map integer_data zs))

abbrev pub records_data : Records → Data
records_data records = array (items_of (map integers_data records))

abbrev pub tree_data : TreeValue → Data
tree_data tree = object (member (codes "parents") (integers_data (map pos tree.parents)) (member (codes "records") (records_data tree.records) no_members))

-- ---- the text, byte for byte

-- the items in brackets, separated by commas
abbrev pub list_text : {A : Type 0} → (A → List ℕ) → List A → List ℕ
list_text f xs = codes "[" ++ join_with_byte 44 (map f xs) ++ codes "]"

abbrev pub record_text : Record → List ℕ
record_text fields = list_text signed_decimal fields

abbrev pub tree_text : TreeValue → List ℕ
tree_text tree = codes "{\"parents\":" ++ list_text decimal tree.parents ++ codes ",\"records\":" ++ list_text record_text tree.records ++ codes "}"
