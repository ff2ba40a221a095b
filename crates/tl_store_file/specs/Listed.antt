-- The tables of a store.
use Rattle.std.specs.Prelude.{◌≡◌, ℕ, ◌<◌, List}
use Rattle.sqlite_trees.specs.declared.store.Shape.TheVariants.{Table}
use Rattle.sqlite_store.specs.declared.catalog.Wanted.{Wanted}
use Rattle.sqlite_store.specs.Catalog.{shape_at}
use Rattle.tl_ledger.specs.declared.schema.TheConstants.{TABLES}

-- the schema lists each of a store's tables as a table
abbrev pub ListsTables : List Wanted → Type 0
ListsTables schema = (t : ℕ) → t < TABLES → shape_at schema t ≡ Table
