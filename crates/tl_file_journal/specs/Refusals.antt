-- The refusals of a server with a store, as numbers, and its exit statuses.
use Rattle.std.specs.Prelude.{ℕ, List, [], ◌∷◌}
use Rattle.tl_core.specs.declared.fault.CoreFault.TheVariants as core
use Rattle.tl_recover.specs.declared.fault.RecoverFault.TheVariants as recover
use Rattle.tl_store.specs.declared.fault.StoreFault.TheVariants as store
use Rattle.tl_store.specs.Faults.{numbers_of as store_numbers_of}
use Rattle.tl_store_file.specs.declared.fault.FileFault.TheVariants as file
use Rattle.tl_store_file.specs.Faults.{numbers_of as file_numbers_of}
use Rattle.tl_file_journal.specs.declared.refusal.StoreRefusal.{StoreRefusal}
use Rattle.tl_file_journal.specs.declared.refusal.StoreRefusal.TheVariants.{NoTree, HasTree, StrayLog, File, Store}

-- the refusal's number, followed by its operand
abbrev pub numbers_of : StoreRefusal → List ℕ
numbers_of NoTree = 1008 ∷ []
numbers_of HasTree = 1009 ∷ []
numbers_of StrayLog = 1019 ∷ []
numbers_of (File fault) = file_numbers_of fault
numbers_of (Store fault) = store_numbers_of fault

-- 3 if the file or the disk failed, 4 if memory was refused, otherwise 1
abbrev pub status_of : StoreRefusal → ℕ
status_of (File (file.Unopened hindrance)) = 3
status_of (File file.Busy) = 3
status_of (File file.DiskFailed) = 3
status_of (File file.DiskFull) = 3
status_of (File file.Memory) = 4
status_of (Store store.DiskFailed) = 3
status_of (Store store.DiskFull) = 3
status_of (Store store.Memory) = 4
status_of (Store (store.Turn (recover.Core core.Memory))) = 4
status_of e = 1
