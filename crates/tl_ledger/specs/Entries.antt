-- Rows of a table that are those of entries, and faults that aren't a row's.
use Rattle.std.specs.Prelude.{◌≡◌, ◌⊎◌, ℕ, pos, List, [], ◌∷◌}
use Rattle.sqlite_value.specs.declared.value.Value.TheVariants.{Int}
use Rattle.sqlite_value.specs.Order.{Row}
use Rattle.tl_ledger.specs.declared.reading.ReadFault.{ReadFault}
use Rattle.tl_ledger.specs.declared.reading.ReadFault.TheVariants.{Store, NotRows}
use Rattle.tl_ledger.specs.Rows.{IsLast}

-- the fault is that of the disk, of the store's file, or of memory
abbrev pub IsOfStore : ReadFault → Type 0
IsOfStore (Store error) = Unit {0}
IsOfStore (NotRows table) = ⊥

-- the first of these rows has that number and the columns of an entry, or there is no row
abbrev pub BeginsWithEntry : {X : Type 0} → (X → Type 0) → (X → Row) → ℕ → List Row → Type 0
BeginsWithEntry {X = X} is_whole columns number [] = Unit {0}
BeginsWithEntry {X = X} is_whole columns number (row ∷ rows) = (x : X) × is_whole x × (row ≡ Int (pos number) ∷ columns x)

-- the last of these columns are those of an entry, or there are none
abbrev pub EndsWithEntry : {X : Type 0} → (X → Type 0) → (X → Row) → List Row → Type 0
EndsWithEntry {X = X} is_whole columns rows = (rows ≡ []) ⊎ ((number : ℕ) × (x : X) × is_whole x × IsLast rows number (columns x))
