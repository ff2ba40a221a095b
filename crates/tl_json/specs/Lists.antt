-- Lists as JSON values.
use Rattle.std.specs.Prelude.{ℕ, List, [], ◌∷◌, map, codes, Option, option_map, option_and_then}
use Rattle.serde_json.specs.Data.{Data, Items, no_items, item, unsigned, number, array, object, member, no_members}
use Rattle.serde_json.specs.Find.{as_array}
use Rattle.serde_json.specs.View.{items_of}
use Rattle.tl_tree.specs.Reading.{each_item}

abbrev pub items_of_list : Items → List Data
items_of_list no_items = []
items_of_list (item d ds) = d ∷ items_of_list ds

abbrev pub list_of : Data → Option (List Data)
list_of d = option_map items_of_list (as_array d)

-- the results of f on all items of the list, or None if f fails on one
abbrev pub each_of : {A : Type 0} → (Data → Option A) → Data → Option (List A)
each_of f d = option_and_then (each_item f) (as_array d)

-- ---- writing

abbrev pub list_data : List Data → Data
list_data ds = array (items_of ds)

abbrev pub natural : ℕ → Data
natural n = number (unsigned n)

-- the calls in their order
abbrev pub calls_data : List ℕ → Data
calls_data calls = list_data (map natural calls)

abbrev pub order_data : List ℕ → Data
order_data calls = object (member (codes "order") (calls_data calls) no_members)

-- for each epoch its calls in their order
abbrev pub orders_data : List (List ℕ) → Data
orders_data orders = object (member (codes "orders") (list_data (map calls_data orders)) no_members)
