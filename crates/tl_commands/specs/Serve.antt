-- The output of the command `serve`, and its faults.
use Rattle.std.specs.Prelude.{◌≡◌, ◌≢◌, ℕ, nat_lt, Bool, List, length}
use Rattle.tl_tree.specs.declared.fault.TreeFault.{TreeFault}
use Rattle.tl_table.specs.Epochs.{EpochValue}
use Rattle.tl_commands.specs.declared.fault.CliFault.{CliFault}
use Rattle.tl_commands.specs.declared.fault.CliFault.TheVariants.{Tree, NotClosed}
use Rattle.tl_commands.specs.Alone.{IsTreeFault}
use Rattle.tl_commands.specs.Faults.{status_of}

-- whether there are several epochs
abbrev pub are_many : List EpochValue → Bool
are_many es = nat_lt 1 (length es)

-- ---- faults

-- the fault of the tree's file, or lack of memory
abbrev pub IsOpeningFault : ℕ → List ℕ → CliFault → Type 0
IsOpeningFault limit t e = status_of e ≢ 4 → (f : TreeFault) × (e ≡ Tree f) × IsTreeFault limit t f

-- the engine doesn't close, or lack of memory; NotClosed has no further condition, since the table isn't returned
abbrev pub IsConclusionFault : CliFault → Type 0
IsConclusionFault e = status_of e ≢ 4 → e ≡ NotClosed
