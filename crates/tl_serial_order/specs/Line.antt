-- An order of calls, and which calls occur in it.
use Rattle.std.specs.Prelude.{◌≡◌, ℕ, Bool, false, List, slice_index_or}
use Rattle.tl_tree_locking.specs.Order.{stands, IsDistinct}

-- the order so far, and the number of calls
pub record Standing : Type 0 where
  pub order : List ℕ
  pub count : ℕ

-- no call occurs twice, and the column says for each call whether it occurs
pub record IsLine (order : List ℕ) (column : List Bool) : Type 0 where
  pub distinct : IsDistinct order
  pub standing : (c : ℕ) → stands c order ≡ slice_index_or column c false
