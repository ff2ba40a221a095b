-- The faults of opening a store's file, as numbers.
use Rattle.std.specs.Prelude.{ℕ, List, [], ◌∷◌}
use Rattle.sqlite_trees.specs.declared.error.StoreError.{StoreError}
use Rattle.sqlite_trees.specs.declared.error.StoreError.TheVariants as name
use Rattle.tl_store_file.specs.declared.fault.FileFault.{FileFault}
use Rattle.tl_store_file.specs.declared.fault.Hindrance.{Hindrance}
use Rattle.tl_store_file.specs.declared.fault.Hindrance.TheVariants.{Permission, NoFolder, NotRegular, Journal, NoLocks, Other}
use Rattle.tl_store_file.specs.declared.fault.FileFault.TheVariants.{Unopened, Busy, NotStore, Newer, DiskFailed, DiskFull, Damaged, Memory}

-- the number of what keeps a file from being opened
abbrev pub hindrance_number : Hindrance → ℕ
hindrance_number Permission = 1
hindrance_number NoFolder = 2
hindrance_number NotRegular = 3
hindrance_number Journal = 4
hindrance_number NoLocks = 5
hindrance_number Other = 6

-- the fault's number, followed by its operand
abbrev pub numbers_of : FileFault → List ℕ
numbers_of (Unopened hindrance) = 1001 ∷ hindrance_number hindrance ∷ []
numbers_of Busy = 1002 ∷ []
numbers_of NotStore = 1003 ∷ 9 ∷ []
numbers_of (Newer form) = 1018 ∷ form ∷ []
numbers_of DiskFailed = 1011 ∷ []
numbers_of DiskFull = 1012 ∷ []
numbers_of Damaged = 1013 ∷ []
numbers_of Memory = 1090 ∷ []

-- the fault for a failure of the database
abbrev pub fault_of_name : StoreError → FileFault
fault_of_name name.OutOfMemory = Memory
fault_of_name name.Io = DiskFailed
fault_of_name name.Corrupt = Damaged
fault_of_name name.Full = DiskFull
fault_of_name name.Broken = DiskFailed
fault_of_name name.Unstorable = DiskFailed
