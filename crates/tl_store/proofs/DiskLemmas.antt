-- Faults that are the disk's or memory's.
use Rattle.std.specs.Prelude.{Result, Ok, Err, IfErr}
use Rattle.sqlite_trees.specs.Tree.{Trees}
use Rattle.sqlite_trees.specs.declared.error.StoreError.{StoreError}
use Rattle.sqlite_trees.specs.declared.error.StoreError.TheVariants.{OutOfMemory, Io, Full, Corrupt, Unstorable, Broken}
use Rattle.tl_core.specs.Cores.{CoreValue}
use Rattle.tl_core.specs.Reached.{IsReached}
use Rattle.tl_ledger.specs.Contents.{Contents, Holds}
use Rattle.tl_store.specs.declared.fault.StoreFault.{StoreFault}
use Rattle.tl_store.specs.declared.fault.StoreFault.TheVariants.{Memory, Turn, BadRow, WrongReply, DiskFailed, DiskFull, Damaged, Other}
use Rattle.tl_store.specs.declared.stored.Stored.{Stored}
use Rattle.tl_store.specs.Faults.{IsOutOfMemory, IsDiskOrMemory, fault_of_name}
use Rattle.tl_store.specs.Stored.{AreStored, IsReadable}
use Rattle.tl_store.specs.Recovered.{AreOfCore, IsStoreOf}

pub of_memory : (e : StoreFault) → IsOutOfMemory e → IsDiskOrMemory e
of_memory Memory is = tt
of_memory (Turn fault) is = is
of_memory (BadRow table) is = absurd is
of_memory (WrongReply call) is = absurd is
of_memory DiskFailed is = tt
of_memory DiskFull is = tt
of_memory Damaged is = tt
of_memory Other is = absurd is

pub of_disk : (name : StoreError) → IsDiskOrMemory (fault_of_name name)
of_disk OutOfMemory = tt
of_disk Io = tt
of_disk Full = tt
of_disk Corrupt = tt
of_disk Unstorable = tt
of_disk Broken = tt

-- where the rows that were read are those of a core, making it again fails for memory alone
pub rebuilt_again : {X : Type 0} (result : Result X StoreFault) (rows : Stored) → ((v : CoreValue) → IsReached v → AreOfCore rows v → IfErr result IsOutOfMemory)
    → (clean : Type 0) (db : Trees) → (clean → (c : Contents) → Holds db c → AreStored c rows)
    → IfErr result (λ e. clean → (c : Contents) (v : CoreValue) → Holds db c → IsReadable c → IsReached v → IsStoreOf c v → IsDiskOrMemory e)
rebuilt_again (Ok x) rows again clean db stored = tt
rebuilt_again (Err e) rows again clean db stored = λ is_clean c v holds readable reached of. of_memory e (again v reached (of rows (stored is_clean c holds)))
