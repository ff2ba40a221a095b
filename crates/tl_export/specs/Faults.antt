-- The faults of an export: their numbers, and which of them the rows of a store don't say.
use Rattle.std.specs.Prelude.{ℕ, List, [], ◌∷◌}
use Rattle.tl_ledger.specs.declared.reading.ReadFault.{ReadFault}
use Rattle.tl_ledger.specs.Entries.{IsOfStore}
use Rattle.tl_audit.specs.Faults.{chain_numbers_of}
use Rattle.tl_store.specs.Faults.{numbers_of as store_numbers_of, IsDiskOrMemory as IsStoreDiskOrMemory}
use Rattle.tl_export.specs.declared.fault.ExportFault.{ExportFault}
use Rattle.tl_export.specs.declared.fault.ExportFault.TheVariants.{Store, Unclean, WrongRecord, Untaken}

-- a fault as numbers
abbrev pub numbers_of : ExportFault → List ℕ
numbers_of (Store fault) = store_numbers_of fault
numbers_of (Unclean fault) = chain_numbers_of fault
numbers_of (WrongRecord node) = 1007 ∷ node ∷ []
numbers_of Untaken = 32 ∷ []

-- the disk failed, or memory was refused: nothing that the rows say
abbrev pub IsDiskOrMemory : ExportFault → Type 0
IsDiskOrMemory (Store fault) = IsStoreDiskOrMemory fault
IsDiskOrMemory (Unclean fault) = ⊥
IsDiskOrMemory (WrongRecord node) = ⊥
IsDiskOrMemory Untaken = ⊥

-- the fault of a table that isn't read: one of the disk or memory where that of the table is
abbrev pub IsOfReading : ReadFault → ExportFault → Type 0
IsOfReading fault e = IsOfStore fault → IsDiskOrMemory e
