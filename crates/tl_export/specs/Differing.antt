-- The first record that isn't that of its node.
use Rattle.std.specs.Prelude.{◌≡◌, ◌⊎◌, ℕ, ◌<◌, List, length, slice_get, Some}
use Rattle.tl_tree.specs.Records.{Records}
use Rattle.tl_ledger.specs.declared.rows.RecordRow.{RecordRow}
use Rattle.tl_rows.specs.Rows.{fields_in}

-- the record of a node is that of its row
pub record IsSame (records : Records) (rows : List RecordRow) (node : ℕ) : Type 0 where
  pub row : RecordRow
  pub row_is : slice_get rows node ≡ Some row
  pub same : slice_get records node ≡ Some (fields_in row)

-- the node's record isn't, and those of all nodes before it are
pub record IsFirstOther (records : Records) (rows : List RecordRow) (node : ℕ) : Type 0 where
  pub inside : (node < length records) ⊎ (node < length rows)
  pub other : IsSame records rows node → ⊥
  pub before : (x : ℕ) → x < node → IsSame records rows x
