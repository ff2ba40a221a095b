-- How a JSON value is read as a tree, depending on the width of its records.
use Rattle.std.proofs.Common.{◌≡◌, ◌≢◌, ℕ, ◌==◌, ℤ, List, [], ◌∷◌, Bool, true, false, length, nat_lt, map, unsigned_abs, Option, Some, None, option_map, Result, Ok, Err, if◌then◌else◌, refl, sym, ap}
use Rattle.std.specs.Option.{option_or}
use Rattle.serde_json.specs.Data.{Data}
use Rattle.tl_tree.specs.declared.fault.TreeFault.{TreeFault}
use Rattle.tl_tree.specs.declared.fault.TreeFault.TheVariants.{TooMany, BadRoot, BadParent, WrongCount, NotTree}
use Rattle.tl_tree.specs.declared.record.Width.TheVariants.{Wide, Narrow}
use Rattle.tl_tree.specs.Records.{Records}
use Rattle.tl_tree.specs.Shape.{is_root, first_astray, shape_fault, unless_fault}
use Rattle.tl_tree.specs.Trees.{TreeValue}
use Rattle.tl_tree.specs.Reading.{form_at, tree_with, tree_from, tree_at, tree_of}

-- ---- parents and records are never wrong in form

rest_wrong : (many root : Bool) (o : Option ℕ) → (if many then Some TooMany else (if root then option_map BadParent o else Some BadRoot)) ≢ Some NotTree
rest_wrong true root o e = absurd cc
rest_wrong false true None e = absurd cc
rest_wrong false true (Some x) e = absurd cc
rest_wrong false false o e = absurd cc

shape_wrong : (limit : ℕ) (numbers : List ℤ) → shape_fault limit numbers ≢ Some NotTree
shape_wrong limit [] e = absurd cc
shape_wrong limit (p ∷ ps) e = rest_wrong (nat_lt limit (length (p ∷ ps))) (is_root p) (first_astray 1 ps) e

count_wrong : (records : Records) (fault : Option TreeFault) (parents : List ℕ) → fault ≢ Some NotTree → tree_with records (unless_fault fault parents) ≢ Err NotTree
count_wrong records (Some f) parents other e = other (let same : f ≡ NotTree = cc in ap Some same)
count_wrong records None parents other e = by (length records == length parents) (record { parents = parents; records = records }) e
  where
    by : (b : Bool) (tree : TreeValue) → (if b then Ok tree else Err WrongCount) ≢ Err NotTree
    by true tree is = absurd cc
    by false tree is = absurd cc

pub formed_is_tree : (limit : ℕ) (parts : List ℤ × Records) → tree_from limit (Some parts) ≢ Err NotTree
formed_is_tree limit parts is = count_wrong parts.1 (shape_fault limit parts.0) (map unsigned_abs parts.0) (shape_wrong limit parts.0) is

-- ---- all wide, or else all narrow

module _ (limit : ℕ) (wide narrow : Option (List ℤ × Records)) where
  pub from_narrow : tree_from limit wide ≡ Err NotTree → tree_from limit (option_or wide narrow) ≡ tree_from limit narrow
  from_narrow is = by wide is
    where
      by : (o : Option (List ℤ × Records)) → tree_from limit o ≡ Err NotTree → tree_from limit (option_or o narrow) ≡ tree_from limit narrow
      by None e = refl
      by (Some parts) e = absurd (formed_is_tree limit parts e)

  pub from_wide : (r : Result TreeValue TreeFault) → tree_from limit wide ≡ r → r ≢ Err NotTree → tree_from limit (option_or wide narrow) ≡ r
  from_wide r is other = by wide is
    where
      by : (o : Option (List ℤ × Records)) → tree_from limit o ≡ r → tree_from limit (option_or o narrow) ≡ r
      by None e = absurd (other (sym e))
      by (Some parts) e = e

pub tree_of_wide : (limit : ℕ) (d : Data) (r : Result TreeValue TreeFault) → tree_at limit Wide d ≡ r → r ≢ Err NotTree → tree_of limit d ≡ r
tree_of_wide limit d r is other = from_wide limit (form_at Wide d) (form_at Narrow d) r is other

pub tree_of_narrow : (limit : ℕ) (d : Data) → tree_at limit Wide d ≡ Err NotTree → tree_of limit d ≡ tree_at limit Narrow d
tree_of_narrow limit d is = from_narrow limit (form_at Wide d) (form_at Narrow d) is
