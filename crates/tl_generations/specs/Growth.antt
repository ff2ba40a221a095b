-- Appending nodes to a tree.
use Rattle.std.specs.Prelude.{◌≡◌, ℕ, ◌+◌, ◌<◌, ◌≤◌, ℤ, pos, List, [], ◌∷◌, ◌++◌, length, map, replicate, slice_index_or, true, false}
use Rattle.tl_width.specs.Fields.{field_count}
use Rattle.tl_tree.specs.Records.{Record, Records}
use Rattle.tl_tree.specs.Shape.{IsTree, is_lower}
use Rattle.tl_generations.specs.declared.growth.GrowthFault.{GrowthFault}
use Rattle.tl_generations.specs.declared.growth.GrowthFault.TheVariants.{TooMany, BadParent, Memory}

-- the record of a new node
abbrev pub zero_record : Record
zero_record = replicate field_count (pos 0)

-- these records followed by n records of zeros
abbrev pub with_zeros : ℕ → Records → Records
with_zeros n records = records ++ replicate n zero_record

-- The integers are the parents of nodes that can be appended to the tree: the result is a tree.
pub record CanGrow (parents : List ℕ) (integers : List ℤ) (added : List ℕ) : Type 0 where
  pub same : map pos added ≡ integers
  pub tree : IsTree (parents ++ added)

-- each of the first n new nodes has a parent with a lower number; the first new node has the number `first`
abbrev pub AreLower : ℕ → List ℤ → ℕ → Type 0
AreLower first integers n = (i : ℕ) → i < n → is_lower (slice_index_or integers i (pos 0)) (first + i) ≡ true

-- the i-th new node is the first whose parent isn't a node with a lower number
pub record IsFirstBad (first : ℕ) (integers : List ℤ) (i : ℕ) : Type 0 where
  pub inside : i < length integers
  pub bad : is_lower (slice_index_or integers i (pos 0)) (first + i) ≡ false
  pub least : AreLower first integers i

-- Why nodes with these parents aren't appended to a tree of `count` nodes. With them the tree would have more than
-- `limit` nodes. Otherwise, a parent is wrong. Memory may be refused in any case.
abbrev pub IsGrowthFault : ℕ → ℕ → List ℤ → GrowthFault → Type 0
IsGrowthFault limit count integers TooMany = limit < count + length integers
IsGrowthFault limit count integers (BadParent i) = (count + length integers ≤ limit) × IsFirstBad count integers i
IsGrowthFault limit count integers Memory = Unit {0}

-- the fault's number, followed by its operand
abbrev pub numbers_of : GrowthFault → List ℕ
numbers_of TooMany = 102 ∷ []
numbers_of (BadParent i) = 104 ∷ i ∷ []
numbers_of Memory = 190 ∷ []
