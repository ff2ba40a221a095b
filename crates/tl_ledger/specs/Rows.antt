-- Tables whose rows are numbered in order.
use Rattle.std.specs.Prelude.{◌≡◌, ◌≢◌, ℕ, ◌+◌, pos, List, [], ◌∷◌, ◌++◌, length, Bool, true, false}
use Rattle.sqlite_value.specs.declared.value.Value.{Value}
use Rattle.sqlite_value.specs.declared.value.Value.TheVariants.{Int}
use Rattle.sqlite_value.specs.Order.{Row}
use Rattle.sqlite_trees.specs.View.{View, OnlyWrites}

-- the rows that have these columns, numbered from n on
abbrev pub rows_from : ℕ → List Row → List Row
rows_from n [] = []
rows_from n (columns ∷ more) = (Int (pos n) ∷ columns) ∷ rows_from (n + 1) more

-- these rows were appended to a table that had `first` rows, and nothing else was written
pub record Appends (old new : View) (table first : ℕ) (more : List Row) : Type 0 where
  pub tree : (columns : List Row) → length columns ≡ first → old.trees table ≡ rows_from 0 columns → new.trees table ≡ rows_from 0 (columns ++ more)
  pub others : (t : ℕ) → t ≢ table → new.trees t ≡ old.trees t
  pub only : OnlyWrites old new

-- the row has this number and these columns
abbrev pub IsNumbered : Row → Value → Row → Type 0
IsNumbered row number columns = row ≡ number ∷ columns

-- the last row's columns are `last`, and `number` rows are before it
pub record IsLast (columns : List Row) (number : ℕ) (last : Row) : Type 0 where
  pub front : List Row
  pub number_is : length front ≡ number
  pub columns_are : columns ≡ front ++ last ∷ []

-- true: the row is the last of these columns with its number; false: there are no columns
abbrev pub IsLastRow : List Row → Row → Bool → Type 0
IsLastRow columns row true = (number : ℕ) × (last : Row) × IsLast columns number last × (row ≡ Int (pos number) ∷ last)
IsLastRow columns row false = columns ≡ []
