-- A table as callers see it: a sequence of epochs.
use Rattle.std.specs.Prelude.{◌≡◌, ℕ, ◌+◌, ◌<◌, ◌≤◌, List, [], ◌∷◌, ◌++◌, length}
use Rattle.tl_history.specs.declared.history.TheConstants.{MAX_CALLS}
use Rattle.tl_tree.specs.Records.{Records}
use Rattle.tl_tree_locking.specs.History.{AllDone, admits, records_now}
use Rattle.tl_tree_locking.specs.World.{World, IsSound, Reached}
use Rattle.tl_procedures.specs.Names.{Named, BeginsWith}
use Rattle.tl_core.specs.declared.fault.CoreFault.TheVariants as core_fault
use Rattle.tl_core.specs.Cores.{IsSealFault, world_of}
use Rattle.tl_table.specs.declared.fault.TableFault.{TableFault}
use Rattle.tl_table.specs.declared.fault.TableFault.TheVariants as fault
use Rattle.tl_table.specs.declared.epoch.TheConstants.{MAX_EPOCHS}
use Rattle.tl_table.specs.Epochs.{EpochValue, seen, IsAtRest, AreOwned}

-- the sealed epochs, the earliest first, and the current one
pub record TableValue : Type 0 where
  pub sealed : List EpochValue
  pub current : EpochValue

-- all epochs of the table, the current one last
abbrev pub all_epochs : TableValue → List EpochValue
all_epochs t = t.sealed ++ t.current ∷ []

-- the world of an epoch
abbrev pub epoch_world : EpochValue → World
epoch_world e = world_of (seen e)

-- ---- one epoch after another

-- the records that these epochs leave, and below the procedures that they leave, starting from the given ones
abbrev pub records_after : Records → List EpochValue → Records
records_after opening [] = opening
records_after opening (e ∷ es) = records_after (records_now (seen e).past (seen e).opening) es

abbrev pub procedures_after : List Named → List EpochValue → List Named
procedures_after procedures [] = procedures
procedures_after procedures (e ∷ es) = procedures_after (seen e).procedures es

-- the epoch has this number and shape, opens with these records, and has these procedures first
pub record IsNext (n : ℕ) (shape : List ℕ) (records : Records) (before : List Named) (e : EpochValue) : Type 0 where
  pub number : e.number ≡ n
  pub parents : (seen e).parents ≡ shape
  pub opening : (seen e).opening ≡ records
  pub procedures : BeginsWith before (seen e).procedures

-- What is true of an epoch at rest.
pub record IsRested (e : EpochValue) : Type 0 where
  pub sound : IsSound (epoch_world e)
  pub reached : Reached (seen e).parents (seen e).opening (epoch_world e)
  pub done : AllDone (seen e).past
  pub counted : length (seen e).calls ≡ admits (seen e).past
  pub few : length (seen e).calls ≤ MAX_CALLS
  pub owned : AreOwned e

-- The epochs are at rest and numbered from n on, and each continues where the previous one ended.
abbrev pub InLine : ℕ → List ℕ → Records → List Named → List EpochValue → Type 0
InLine n parents opening procedures [] = Unit {0}
InLine n parents opening procedures (e ∷ es) =
    IsNext n parents opening procedures e × IsRested e
    × InLine (n + 1) parents (records_now (seen e).past (seen e).opening) (seen e).procedures es

-- What is true of a closed table: its epochs follow one another and are numbered from 0. The first opens with `opening`.
pub record IsChain (es : List EpochValue) : Type 0 where
  pub parents : List ℕ
  pub opening : Records
  pub line : InLine 0 parents opening [] es
  pub some : 0 < length es
  pub few : length es ≤ MAX_EPOCHS

-- ---- why a table isn't sealed: its lowest unfinished call; else that it has MAX_EPOCHS epochs; else that memory was refused

abbrev pub IsSealRefusal : TableValue → TableFault → Type 0
IsSealRefusal t (fault.Core (core_fault.NotAtRest c)) = IsSealFault (seen t.current) (core_fault.NotAtRest c)
IsSealRefusal t fault.TooManyEpochs = IsAtRest t.current × (length t.sealed + 1 ≡ MAX_EPOCHS)
IsSealRefusal t (fault.Core core_fault.Memory) = IsAtRest t.current × (length t.sealed + 1 < MAX_EPOCHS)
IsSealRefusal t fault.Memory = IsAtRest t.current × (length t.sealed + 1 < MAX_EPOCHS)
IsSealRefusal t _ = ⊥
