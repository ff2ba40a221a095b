-- A store that is copied into another, row by row.
use Rattle.std.specs.Prelude.{◌≡◌, ◌≢◌, ℕ, ◌<◌, List, [], ◌∷◌, Some, Bool, true, false}
use Rattle.sqlite_value.specs.Order.{Row}
use Rattle.sqlite_trees.specs.Tree.{Trees, put_row}
use Rattle.sqlite_trees.specs.View.{View, SetsTree}
use Rattle.tl_ledger.specs.declared.schema.TheConstants.{TABLES}

-- each table has the rows, under the numbers, that it has there
abbrev pub IsCopy : Trees → Trees → Type 0
IsCopy from to = (t : ℕ) → t < TABLES → to t ≡ from t

-- the row that the cursor gave was put into the table of the other store; or the cursor was at its end, and nothing was
abbrev pub PutsNext : View → View → View → View → ℕ → Bool → Type 0
PutsNext from from2 to to2 table true = (row : Row) × (left : List Row) × (from.cursors 0 ≡ Some (row ∷ left)) × (from2.cursors 0 ≡ Some left) × SetsTree to to2 table (put_row row)
PutsNext from from2 to to2 table false = (from.cursors 0 ≡ Some []) × (to2.trees ≡ to.trees)

-- the table has these rows now, and the others are as they were
pub record Fills (old new : View) (table : ℕ) (rows : List Row) : Type 0 where
  pub tree : new.trees table ≡ rows
  pub others : (t : ℕ) → t ≢ table → new.trees t ≡ old.trees t
