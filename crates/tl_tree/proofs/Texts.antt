-- The text that is written for a tree.
use Rattle.std.proofs.Common.{◌≡◌, ℕ, ◌≤◌, ℤ, pos, negsuc, List, [], ◌∷◌, ◌++◌, map, Bool, true, false, codes, decimal, refl, sym, ap, ap₂, ◌∙◌, arith, append_assoc}
use Rattle.std.specs.Fmt.{signed_decimal}
use Rattle.std.specs.List.{join_with_byte}
use Rattle.serde_json.specs.Data.{Data, depth, items_depth}
use Rattle.serde_json.specs.Read.{max_depth}
use Rattle.serde_json.specs.View.{items_of}
use Rattle.serde_json.specs.Written.{has_float, items_have_float, comma_if, compact_text, items_text}
use Rattle.serde_json.proofs.OnLiterals.{serde_json_on_literals}
use Rattle.tl_tree.specs.Records.{Record, Records}
use Rattle.tl_tree.specs.Trees.{TreeValue}
use Rattle.tl_tree.specs.Writing.{integer_data, integers_data, records_data, tree_data, list_text, record_text, tree_text}

module _ {A : Type 0} (g : A → Data) where
  pub whole_items : ((x : A) → has_float (g x) ≡ false) → (xs : List A) → items_have_float (items_of (map g xs)) ≡ false
  whole_items h [] = refl
  whole_items h (x ∷ xs) = rw (h x, whole_items h xs) refl

  pub shallow_items : (n : ℕ) → ((x : A) → depth (g x) ≤ n) → (xs : List A) → items_depth (items_of (map g xs)) ≤ n
  shallow_items n h [] = omega arith
  shallow_items n h (x ∷ xs) = omega (arith, h x, shallow_items n h xs)

  items_joined : (text : A → List ℕ) → ((x : A) → compact_text (g x) ≡ text x) → (later : Bool) (x : A) (xs : List A)
      → items_text later (items_of (map g (x ∷ xs))) ≡ comma_if later ++ (join_with_byte 44 (map text (x ∷ xs)) ++ 93 ∷ [])
  items_joined text h later x [] = rw (h x) refl
  items_joined text h later x (y ∷ ys) =
      ap (λ l. comma_if later ++ (l ++ items_text true (items_of (map g (y ∷ ys))))) (h x)
      ∙ ap (λ l. comma_if later ++ (text x ++ l)) (items_joined text h true y ys)
      ∙ ap (λ l. comma_if later ++ l) (sym (append_assoc (text x) (44 ∷ join_with_byte 44 (map text (y ∷ ys))) (93 ∷ [])))

  pub list_written : (text : A → List ℕ) → ((x : A) → compact_text (g x) ≡ text x) → (xs : List A) → 91 ∷ items_text false (items_of (map g xs)) ≡ list_text text xs
  list_written text h [] = refl
  list_written text h (x ∷ xs) = ap (λ l. 91 ∷ l) (items_joined text h false x xs)

pub map-map : {A B C : Type 0} (f : B → C) (g : A → B) (xs : List A) → map f (map g xs) ≡ map (λ x. f (g x)) xs
map-map f g [] = refl
map-map f g (x ∷ xs) = ap (λ l. f (g x) ∷ l) (map-map f g xs)

-- ---- no float

pub integer_whole : (z : ℤ) → has_float (integer_data z) ≡ false
integer_whole (pos n) = refl
integer_whole (negsuc n) = refl

pub integers_whole : (zs : List ℤ) → has_float (integers_data zs) ≡ false
integers_whole zs = whole_items integer_data integer_whole zs

pub tree_whole : (tree : TreeValue) → has_float (tree_data tree) ≡ false
tree_whole tree = rw (integers_whole (map pos tree.parents), whole_items integers_data integers_whole tree.records) refl

-- ---- not deep

pub integer_shallow : (z : ℤ) → depth (integer_data z) ≤ 0
integer_shallow (pos n) = omega arith
integer_shallow (negsuc n) = omega arith

pub integers_shallow : (zs : List ℤ) → depth (integers_data zs) ≤ 1
integers_shallow zs = omega (arith, shallow_items integer_data 0 integer_shallow zs)

pub tree_shallow : (tree : TreeValue) → depth (tree_data tree) ≤ max_depth
tree_shallow tree = omega (arith, integers_shallow (map pos tree.parents), shallow_items integers_data 1 integers_shallow tree.records)

-- ---- the bytes

pub integer_written : (z : ℤ) → compact_text (integer_data z) ≡ signed_decimal z
integer_written (pos n) = refl
integer_written (negsuc n) = refl

pub record_written : (fields : Record) → compact_text (integers_data fields) ≡ record_text fields
record_written fields = list_written integer_data signed_decimal integer_written fields

pub records_written : (records : Records) → compact_text (records_data records) ≡ list_text record_text records
records_written records = list_written integers_data record_text record_written records

pub parents_written : (parents : List ℕ) → compact_text (integers_data (map pos parents)) ≡ list_text decimal parents
parents_written parents =
    ap (λ ds. 91 ∷ items_text false (items_of ds)) (map-map integer_data pos parents) ∙ list_written (λ p. integer_data (pos p)) decimal (λ p. refl) parents

regroup : (a b c d e : List ℕ) → a ++ (b ++ (c ++ (d ++ e))) ≡ a ++ b ++ c ++ d ++ e
regroup a b c d e = sym (append_assoc (a ++ b ++ c) d e ∙ append_assoc (a ++ b) c (d ++ e) ∙ append_assoc a b (c ++ (d ++ e)))

pub tree_written : (tree : TreeValue) → compact_text (tree_data tree) ≡ tree_text tree
unfolding serde_json_on_literals
tree_written tree =
    ap₂ (λ parents records. codes "{\"parents\":" ++ (parents ++ (codes ",\"records\":" ++ (records ++ codes "}")))) (parents_written tree.parents) (records_written tree.records)
    ∙ regroup (codes "{\"parents\":") (list_text decimal tree.parents) (codes ",\"records\":") (list_text record_text tree.records) (codes "}")
