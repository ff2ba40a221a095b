-- A store as it was after an epoch.
use Rattle.std.specs.Prelude.{◌≡◌, ◌<◌, ℕ, List, length, slice_get, Option, Some, IfSome}
use Rattle.tl_trail.specs.Trails.{TrailValue}
use Rattle.tl_tree.specs.Trees.{TreeValue}

-- the tree is the one with which the trail of that number ends
pub record IsEnding (trails : List TrailValue) (number : ℕ) (tree : TreeValue) : Type 0 where
  pub trail : TrailValue
  pub at : slice_get trails number ≡ Some trail
  pub parents : tree.parents ≡ trail.parents
  pub records : tree.records ≡ trail.ends

-- So many trails came; and once that of the epoch with this number is among them, the tree is the one with which it ends.
pub record IsAfter (epoch seen : ℕ) (tree : Option TreeValue) (trails : List TrailValue) : Type 0 where
  pub count : length trails ≡ seen
  pub right : IfSome tree (IsEnding trails epoch)
