-- The faults of a copy in a file.
use Rattle.sqlite_trees.specs.declared.error.StoreError.{StoreError}
use Rattle.sqlite_trees.specs.declared.error.StoreError.TheVariants.{OutOfMemory}
use Rattle.tl_snapshot.specs.declared.fault.CopyFault.{CopyFault}
use Rattle.tl_snapshot.specs.declared.fault.CopyFault.TheVariants as copy
use Rattle.tl_store_file.specs.declared.fault.FileFault.{FileFault}
use Rattle.tl_store_file.specs.declared.fault.FileFault.TheVariants as file
use Rattle.tl_file_snapshot.specs.declared.fault.SnapshotFault.{SnapshotFault}
use Rattle.tl_file_snapshot.specs.declared.fault.SnapshotFault.TheVariants.{Unwritten, Source, Memory}

-- the fault for a failure of the copy
abbrev pub fault_of_error : StoreError → SnapshotFault
fault_of_error OutOfMemory = Memory
fault_of_error _ = Unwritten

abbrev pub fault_of_copy : CopyFault → SnapshotFault
fault_of_copy (copy.Source e) = Source e
fault_of_copy (copy.Target e) = fault_of_error e

-- the fault for a file that isn't opened
abbrev pub fault_of_file : FileFault → SnapshotFault
fault_of_file file.Memory = Memory
fault_of_file _ = Unwritten
