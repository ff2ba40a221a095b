-- How a JSON value or a text is read as numbers, records or a tree.
use Rattle.std.specs.Prelude.{◌≡◌, ℕ, ◌==◌, ℤ, pos, map, List, [], ◌∷◌, length, codes, if◌then◌else◌, Option, Some, None, option_map, option_and_then, Result, Ok, Err}
use Rattle.std.specs.Option.{option_or}
use Rattle.serde_json.specs.Data.{Data, Items, no_items, item, Members}
use Rattle.serde_json.specs.Events.{members_len}
use Rattle.serde_json.specs.Find.{as_number, as_i64, as_array, as_object, get_member}
use Rattle.serde_json.specs.Read.{read}
use Rattle.tl_tree.specs.declared.fault.TreeFault.{TreeFault}
use Rattle.tl_tree.specs.declared.fault.TreeFault.TheVariants.{WrongCount, NotTree}
use Rattle.tl_tree.specs.declared.record.Width.{Width}
use Rattle.tl_tree.specs.declared.record.Width.TheVariants.{Wide, Narrow}
use Rattle.tl_tree.specs.Records.{Record, Records, width_of, widened}
use Rattle.tl_tree.specs.Shape.{shape_of}
use Rattle.tl_tree.specs.Trees.{TreeValue, IsWhole}

abbrev pub both : {A B : Type 0} → Option A → Option B → Option (A × B)
both a b = option_and_then (λ x. option_map (λ y. (x, y)) b) a

-- the results of f on all items, or None if f fails on one
abbrev pub each_item : {A : Type 0} → (Data → Option A) → Items → Option (List A)
each_item f no_items = Some []
each_item f (item d ds) = option_and_then (λ x. option_map (λ xs. x ∷ xs) (each_item f ds)) (f d)

-- the value as a signed 64-bit integer, if it is one
abbrev pub integer_of : Data → Option ℤ
integer_of d = option_and_then as_i64 (as_number d)

-- the value as a list of signed 64-bit integers, if it is one
abbrev pub integers_of : Data → Option (List ℤ)
integers_of d = option_and_then (each_item integer_of) (as_array d)

abbrev pub if_record : Width → List ℤ → Option Record
if_record width numbers = if length numbers == width_of width then Some (widened numbers) else None

-- the record that a list of exactly `width_of width` integers denotes
abbrev pub record_of : Width → Data → Option Record
record_of width d = option_and_then (if_record width) (integers_of d)

abbrev pub records_of : Width → Data → Option Records
records_of width d = option_and_then (each_item (record_of width)) (as_array d)

-- the members `parents` and `records` of an object that has no other members
abbrev pub parts_of : Data → Option (Data × Data)
parts_of d = option_and_then (λ ms. if members_len ms == 2 then both (get_member (codes "parents") ms) (get_member (codes "records") ms) else None) (as_object d)

-- the parents as integers and the records, if the value has the form of a tree with records of this width
abbrev pub form_at : Width → Data → Option (List ℤ × Records)
form_at width d = option_and_then (λ parts. both (integers_of parts.0) (records_of width parts.1)) (parts_of d)

abbrev pub tree_with : Records → Result (List ℕ) TreeFault → Result TreeValue TreeFault
tree_with records (Err fault) = Err fault
tree_with records (Ok parents) = if length records == length parents then Ok (record { parents = parents; records = records }) else Err WrongCount

-- the tree with these parents and records, if it has at most `limit` nodes; otherwise the first fault
abbrev pub tree_from : ℕ → Option (List ℤ × Records) → Result TreeValue TreeFault
tree_from limit None = Err NotTree
tree_from limit (Some form) = tree_with form.1 (shape_of limit form.0)

-- the tree that the value denotes, with records of this width and at most `limit` nodes; otherwise the first fault
abbrev pub tree_at : ℕ → Width → Data → Result TreeValue TreeFault
tree_at limit width d = tree_from limit (form_at width d)

-- The tree that the value denotes, with at most `limit` nodes; otherwise the first fault. Its records are all wide or all narrow.
abbrev pub tree_of : ℕ → Data → Result TreeValue TreeFault
tree_of limit d = tree_from limit (option_or (form_at Wide d) (form_at Narrow d))

abbrev pub tree_of_read : ℕ → Option Data → Result TreeValue TreeFault
tree_of_read limit None = Err NotTree
tree_of_read limit (Some d) = tree_of limit d

-- the tree that the text denotes, with at most `limit` nodes; otherwise the first fault
abbrev pub tree_of_text : ℕ → List ℕ → Result TreeValue TreeFault
tree_of_text limit text = tree_of_read limit (read text)

-- the value is an object of two members: `parents` with the tree's parents, and `records` with its records, written in this width
pub record StandsFor (width : Width) (d : Data) (tree : TreeValue) : Type 0 where
  pub members : Members
  pub parents_member : Data
  pub records_member : Data
  pub object_is : as_object d ≡ Some members
  pub two : members_len members ≡ 2
  pub parents_found : get_member (codes "parents") members ≡ Some parents_member
  pub records_found : get_member (codes "records") members ≡ Some records_member
  pub parents_are : integers_of parents_member ≡ Some (map pos tree.parents)
  pub records_are : records_of width records_member ≡ Some tree.records
  pub whole : IsWhole tree
