-- The faults of a store, as numbers.
use Rattle.std.specs.Prelude.{◌≡◌, ℕ, List, [], ◌∷◌}
use Rattle.sqlite_trees.specs.declared.error.StoreError.{StoreError}
use Rattle.sqlite_trees.specs.declared.error.StoreError.TheVariants as name
use Rattle.tl_ledger.specs.declared.reading.ReadFault.{ReadFault}
use Rattle.tl_ledger.specs.Entries.{IsOfStore}
use Rattle.tl_recover.specs.Faults.{numbers_of as turn_numbers_of, out_of_memory}
use Rattle.tl_store.specs.declared.fault.StoreFault.{StoreFault}
use Rattle.tl_store.specs.declared.fault.StoreFault.TheVariants.{BadRow, Turn, WrongReply, DiskFailed, DiskFull, Damaged, Other, Memory}

-- the fault's number, followed by its operand
abbrev pub numbers_of : StoreFault → List ℕ
numbers_of (BadRow table) = 1003 ∷ table ∷ []
numbers_of (Turn fault) = turn_numbers_of fault
numbers_of (WrongReply call) = 1006 ∷ call ∷ []
numbers_of DiskFailed = 1011 ∷ []
numbers_of DiskFull = 1012 ∷ []
numbers_of Damaged = 1013 ∷ []
numbers_of Other = 1014 ∷ []
numbers_of Memory = 1090 ∷ []

-- memory was refused, for the store or for an admission
abbrev pub IsOutOfMemory : StoreFault → Type 0
IsOutOfMemory Memory = Unit {0}
IsOutOfMemory (Turn fault) = fault ≡ out_of_memory
IsOutOfMemory (BadRow table) = ⊥
IsOutOfMemory (WrongReply call) = ⊥
IsOutOfMemory DiskFailed = ⊥
IsOutOfMemory DiskFull = ⊥
IsOutOfMemory Damaged = ⊥
IsOutOfMemory Other = ⊥

-- the disk failed, memory was refused, or rows have another form: a fault of reading, whatever the rows say
abbrev pub IsReadFault : StoreFault → Type 0
IsReadFault (BadRow table) = Unit {0}
IsReadFault DiskFailed = Unit {0}
IsReadFault DiskFull = Unit {0}
IsReadFault Damaged = Unit {0}
IsReadFault Memory = Unit {0}
IsReadFault (Turn fault) = ⊥
IsReadFault Other = ⊥
IsReadFault (WrongReply call) = ⊥

-- the disk failed, or memory was refused: nothing that the rows say
abbrev pub IsDiskOrMemory : StoreFault → Type 0
IsDiskOrMemory DiskFailed = Unit {0}
IsDiskOrMemory DiskFull = Unit {0}
IsDiskOrMemory Damaged = Unit {0}
IsDiskOrMemory Memory = Unit {0}
IsDiskOrMemory (Turn fault) = fault ≡ out_of_memory
IsDiskOrMemory (BadRow table) = ⊥
IsDiskOrMemory Other = ⊥
IsDiskOrMemory (WrongReply call) = ⊥

-- the fault of a table that isn't read: one of reading, and of the disk or memory where that of the table is
pub record IsOfReading (fault : ReadFault) (e : StoreFault) : Type 0 where
  pub reading : IsReadFault e
  pub disk : IsOfStore fault → IsDiskOrMemory e

-- the fault for a failure of the database
abbrev pub fault_of_name : StoreError → StoreFault
fault_of_name name.OutOfMemory = Memory
fault_of_name name.Io = DiskFailed
fault_of_name name.Corrupt = Damaged
fault_of_name name.Full = DiskFull
fault_of_name name.Broken = DiskFailed
fault_of_name name.Unstorable = DiskFailed
