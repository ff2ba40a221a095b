-- What files hold whose form is known, and the fault of one that isn't.
use Rattle.std.specs.Prelude.{⊤, ◌<◌}
use Rattle.sqlite_disk.specs.declared.Disk.{Ghosts}
use Rattle.sqlite_store.specs.FileStore.{view}
use Rattle.sqlite_trees.specs.View.{IsClean}
use Rattle.tl_store_file.specs.Form.{HasKnownForm}
use Rattle.tl_store_file.specs.declared.fault.FileFault.{FileFault}
use Rattle.tl_store_file.specs.declared.fault.FileFault.TheVariants.{Newer}
use Rattle.tl_store_file.specs.declared.form.TheConstants.{FORM}
use Rattle.tl_store_file.specs.declared.opening.Found.{Found}
use Rattle.tl_store_file.specs.declared.opening.Found.TheVariants.{Blank, Store}

-- a form that is refused as newer is greater than this program's
abbrev pub IsNewer : FileFault → Type 0
IsNewer (Newer form) = FORM < form
IsNewer _ = ⊤

module _ {D : Type 0} {g : Ghosts D} where
  -- a store that was found has a form that this program knows
  abbrev pub IsOfKnownForm : Found D g → Type 0
  IsOfKnownForm (Blank blank) = ⊤
  IsOfKnownForm (Store rested) = IsClean (view rested.store) → HasKnownForm (view rested.store).committed
