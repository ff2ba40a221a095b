-- The data written for a tree is read as that tree.
use Rattle.std.proofs.Common.{◌≡◌, ℕ, suc, ◌-◌, ◌<◌, ◌≤◌, ◌^◌, ℤ, pos, negsuc, List, [], ◌∷◌, ◌++◌, length, replicate, get_or, map, Option, Some, Ok, refl, ap, ◌∙◌, arith, eq-eqb, lt-ltb}
use Rattle.std.specs.Prelude.{All, FitsSigned}
use Rattle.std.specs.Int.{w64}
use Rattle.std.proofs.lemmas.List.{length-map, get_or-map, append-nil}
use Rattle.serde_json.specs.Data.{Data}
use Rattle.serde_json.specs.View.{items_of}
use Rattle.tl_width.specs.Fields.{field_count}
use Rattle.tl_tree.specs.declared.record.Width.TheVariants.{Wide}
use Rattle.tl_tree.specs.Records.{Record, Records, widened}
use Rattle.tl_tree.specs.Shape.{IsTree}
use Rattle.tl_tree.specs.Trees.{TreeValue, IsRecord, IsWhole}
use Rattle.tl_tree.specs.Reading.{each_item, integer_of, integers_of, record_of, records_of, form_at, tree_from, tree_with, tree_at}
use Rattle.tl_tree.specs.Writing.{integer_data, integers_data, records_data, tree_data}
use Rattle.tl_tree.proofs.Parents.{shape_of-pos}
use Rattle.tl_tree.proofs.Paths.{parent_le}

-- if each item is read back, so is the list
pub each_back : {A : Type 0} (f : Data → Option A) (g : A → Data) (P : A → Type 0) → ((x : A) → P x → f (g x) ≡ Some x) → (xs : List A) → All P xs → each_item f (items_of (map g xs)) ≡ Some xs
each_back f g P back [] h = refl
each_back f g P back (x ∷ xs) h =
    let first = back x (h 0 x (omega arith)) in
    let rest = each_back f g P back xs (λ k d less. h (suc k) d (omega arith)) in
    rw (first, rest) refl

pub integer_back : (z : ℤ) → FitsSigned w64 z → integer_of (integer_data z) ≡ Some z
integer_back (pos n) h = let less : n < 2 ^ 63 = h.sfits in rw (lt-ltb n (2 ^ 63) less) refl
integer_back (negsuc n) h = refl

pub integers_back : (zs : List ℤ) → All (FitsSigned w64) zs → integers_of (integers_data zs) ≡ Some zs
integers_back zs h = each_back integer_of integer_data (FitsSigned w64) integer_back zs h

-- a record with all its fields isn't changed by widening
pub widened_already : (fields : Record) → length fields ≡ field_count → widened fields ≡ fields
widened_already fields all = ap (λ n. fields ++ replicate (field_count - n) (pos 0)) all ∙ append-nil fields

pub record_back : (fields : Record) → IsRecord fields → record_of Wide (integers_data fields) ≡ Some fields
record_back fields h = rw (integers_back fields h.fit, eq-eqb (length fields) field_count h.width) (ap Some (widened_already fields h.width))

pub records_back : (records : Records) → All IsRecord records → records_of Wide (records_data records) ≡ Some records
records_back records h = each_back (record_of Wide) integers_data IsRecord record_back records h

parent_fits : (parents : List ℕ) → IsTree parents → All (FitsSigned w64) (map pos parents)
parent_fits parents tree k d inside =
    let size = length-map parents pos in
    let few = tree.few in
    let low = parent_le parents tree k in
    let less : get_or parents k 0 < 2 ^ 63 = omega arith in
    let within : k < length parents = omega arith in
    rw (get_or-map pos parents k 0 d within) (record { sfits = less })

pub tree_back : (limit : ℕ) (tree : TreeValue) → length tree.parents ≤ limit → IsWhole tree → All IsRecord tree.records → tree_at limit Wide (tree_data tree) ≡ Ok tree
tree_back limit tree few whole each =
    let parents = integers_back (map pos tree.parents) (parent_fits tree.parents whole.shape) in
    let records = records_back tree.records each in
    let form : form_at Wide (tree_data tree) ≡ Some (map pos tree.parents, tree.records) = rw (parents, records) refl in
    ap (tree_from limit) form ∙ ap (tree_with tree.records) (shape_of-pos limit tree.parents whole.shape few) ∙ rw (eq-eqb (length tree.records) (length tree.parents) whole.count) refl
