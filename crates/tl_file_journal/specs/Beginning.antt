-- Why a store goes on in no next volume.
use Rattle.std.specs.Prelude.{ℕ, ◌+◌, ◌-◌, ◌^◌, min}
use Rattle.tl_file_journal.specs.declared.refusal.StoreRefusal.{StoreRefusal}
use Rattle.tl_file_journal.specs.declared.refusal.StoreRefusal.TheVariants.{File, Store}
use Rattle.tl_file_journal.specs.declared.volumes.Unbegun.{Unbegun}
use Rattle.tl_file_journal.specs.declared.volumes.Unbegun.TheVariants.{Refused, Left}
use Rattle.tl_server.specs.declared.volume.VolumeRefusal.{VolumeRefusal}
use Rattle.tl_server.specs.declared.volume.VolumeRefusal.TheVariants as refusal
use Rattle.tl_store.specs.Faults.{fault_of_name}
use Rattle.tl_store.specs.declared.fault.StoreFault.TheVariants as store
use Rattle.tl_store_file.specs.declared.fault.FileFault.TheVariants.{Unopened}
use Rattle.tl_store_file.specs.declared.fault.Hindrance.TheVariants.{Other}
use Rattle.tl_volumes.specs.declared.carrying.CarryFault.{CarryFault}
use Rattle.tl_volumes.specs.declared.carrying.CarryFault.TheVariants.{Last, Next}

-- the sum of two numbers of epochs
abbrev pub added : ℕ → ℕ → ℕ
added before epochs = min (before + epochs) (2 ^ 64 - 1)

-- as the server says it
abbrev pub carry_refusal : CarryFault → VolumeRefusal
carry_refusal (Last store.Other) = refusal.OtherLeft
carry_refusal (Last fault) = refusal.Broken
carry_refusal (Next store.Memory) = refusal.Memory
carry_refusal (Next fault) = refusal.Unwritten

-- as a start says it
abbrev pub refusal_after : Unbegun → StoreRefusal
refusal_after (Refused refusal.Memory) = Store store.Memory
refusal_after (Refused refusal.OtherLeft) = Store store.Other
refusal_after (Refused refusal.Broken) = Store store.DiskFailed
refusal_after (Refused refusal.Unwritten) = File (Unopened Other)
refusal_after (Refused refusal.NoVolumes) = File (Unopened Other)
refusal_after (Left name) = Store (fault_of_name name)
