-- A table with a row for each key, under the key's number.
use Rattle.std.specs.Prelude.{◌≡◌, ℤ, List, [], ◌∷◌, filter, string_bytes}
use Rattle.sqlite_value.specs.declared.value.Value.TheVariants.{Null, Int, Text}
use Rattle.sqlite_value.specs.Order.{Row}
use Rattle.sqlite_trees.specs.Tree.{has_rowid}
use Rattle.tl_key_table.specs.declared.row.KeyRow.{KeyRow}

-- the columns of a row, without its number
abbrev pub key_columns : KeyRow → Row
key_columns r = Null ∷ Text (string_bytes r.key) ∷ Int r.epoch ∷ Int r.call ∷ Text (string_bytes r.reply) ∷ []

-- the table has this row under the number, and no other
abbrev pub HasUnder : List Row → ℤ → KeyRow → Type 0
HasUnder rows number r = filter (has_rowid number) rows ≡ (Int number ∷ key_columns r) ∷ []
