-- The form of a store's file, as SQLite's user version says it.
use Rattle.std.specs.Prelude.{◌≡◌, ℕ, ◌≤◌}
use Rattle.sqlite_trees.specs.Tree.{Trees}
use Rattle.sqlite_trees.specs.Objects.{version_tree, version_rows}
use Rattle.tl_store_file.specs.declared.form.TheConstants.{FORM}

-- the database has this form
abbrev pub HasForm : Trees → ℕ → Type 0
HasForm db form = db version_tree ≡ version_rows form

-- the database has a form that this program knows
abbrev pub HasKnownForm : Trees → Type 0
HasKnownForm db = (form : ℕ) × (form ≤ FORM) × HasForm db form
