-- A tree: its shape, and a record for each node.
use Rattle.std.specs.Prelude.{◌≡◌, ℕ, List, length, All, FitsSigned}
use Rattle.std.specs.Int.{w64}
use Rattle.tl_tree.specs.Records.{Record, Records}
use Rattle.tl_tree.specs.Shape.{IsTree}
use Rattle.tl_width.specs.Fields.{field_count}

pub record TreeValue : Type 0 where
  pub parents : List ℕ
  pub records : Records

-- a record has `field_count` numbers, each of which fits a signed 64-bit integer
pub record IsRecord (fields : Record) : Type 0 where
  pub width : length fields ≡ field_count
  pub fit : All (FitsSigned w64) fields

-- the parents form a tree, and each node has one record
pub record IsWhole (tree : TreeValue) : Type 0 where
  pub shape : IsTree tree.parents
  pub count : length tree.records ≡ length tree.parents
