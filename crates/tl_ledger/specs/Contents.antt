-- The contents of a store's tables: for each table its rows, without their numbers; for the names of nodes, which clients write, with them.
use Rattle.std.specs.Prelude.{◌≡◌, ℕ, ◌<◌, ◌==◌, false, if◌then◌else◌, List, [], ◌++◌, IsTrue}
use Rattle.sqlite_value.specs.Order.{Row}
use Rattle.sqlite_trees.specs.Tree.{Trees}
use Rattle.sqlite_trees.specs.View.{View}
use Rattle.sqlite_trees.specs.declared.store.Shape.TheVariants.{Table}
use Rattle.tl_ledger.specs.declared.schema.TheConstants.{NAME, TABLES}
use Rattle.tl_ledger.specs.Rows.{rows_from}

abbrev pub Contents : Type 0
Contents = ℕ → List Row

-- tables without rows
abbrev pub no_contents : Contents
no_contents t = []

-- a database has these rows: each table's are numbered from 0, and the names are those of any nodes
pub record Holds (db : Trees) (c : Contents) : Type 0 where
  pub numbered : (t : ℕ) → t < NAME → db t ≡ rows_from 0 (c t)
  pub names : db NAME ≡ c NAME

-- the contents with the rows of one table replaced
abbrev pub with_rows : Contents → ℕ → List Row → Contents
with_rows c table rows t = if t == table then rows else c t

-- the contents with rows appended to one table
abbrev pub with_more : Contents → ℕ → List Row → Contents
with_more c table more = with_rows c table (c table ++ more)

-- all tables exist
abbrev pub AreTables : View → Type 0
AreTables v = (t : ℕ) → t < TABLES → v.shape t ≡ Table

-- nothing but cursors differs
pub record OnlyReads (old new : View) : Type 0 where
  pub same : new ≡ record old { cursors = new.cursors }

-- the database is open and not broken, has its tables, and has no uncommitted writes
pub record IsAtRest (v : View) : Type 0 where
  pub is_open : IsTrue v.is_open
  pub sound : v.is_broken ≡ false
  pub settled : v.trees ≡ v.committed
  pub tables : AreTables v
