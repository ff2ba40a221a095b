-- The refusals of an engine: their numbers, and which may occur when.
use Rattle.std.specs.Prelude.{◌≡◌, ◌⊎◌, ℕ, Bool, true, false, List, [], ◌∷◌, Ok, Err, Result}
use Rattle.tl_core.specs.declared.fault.CoreFault.TheVariants as core_fault
use Rattle.tl_table.specs.declared.fault.TableFault.{TableFault}
use Rattle.tl_table.specs.declared.fault.TableFault.TheVariants as fault
use Rattle.tl_table.specs.Faults.{numbers_of as table_numbers_of}
use Rattle.tl_workers.specs.declared.refusal.Refusal.{Refusal}
use Rattle.tl_workers.specs.declared.refusal.Refusal.TheVariants.{Table, Memory}

-- the refusal's number, followed by its operand
abbrev pub numbers_of : Refusal → List ℕ
numbers_of (Table f) = table_numbers_of f
numbers_of Memory = 990 ∷ []

-- a new engine is refused only for lack of memory, in the core, the table or the engine
abbrev pub IsNewEngineRefusal : Refusal → Type 0
IsNewEngineRefusal e = (e ≡ Table (fault.Core core_fault.Memory)) ⊎ (e ≡ Table fault.Memory) ⊎ (e ≡ Memory)

-- Why a table doesn't admit a call: its session, procedure or arguments are wrong, it needs more events than an epoch
-- has, or memory was refused. A table that is never sealed may also have reached its limit of calls or of open calls. One
-- that is sealed when it is full may have reached its limit of epochs.
abbrev pub IsAdmitRefused : Bool → TableFault → Type 0
IsAdmitRefused seals (fault.Core core_fault.WrongArgs) = Unit {0}
IsAdmitRefused seals (fault.Core core_fault.NoProcedure) = Unit {0}
IsAdmitRefused seals (fault.Core core_fault.HistoryFull) = Unit {0}
IsAdmitRefused seals fault.NoSession = Unit {0}
IsAdmitRefused seals fault.Memory = Unit {0}
IsAdmitRefused false (fault.Core core_fault.TooManyCalls) = Unit {0}
IsAdmitRefused false (fault.Core core_fault.TooManyOpen) = Unit {0}
IsAdmitRefused true (fault.Core core_fault.Memory) = Unit {0}
IsAdmitRefused true fault.TooManyEpochs = Unit {0}
IsAdmitRefused seals _ = ⊥

-- why an engine refuses a call; `seals` says whether it seals its epochs by itself
abbrev pub IsCallRefusal : Bool → Refusal → Type 0
IsCallRefusal seals (Table f) = IsAdmitRefused seals f
IsCallRefusal seals Memory = Unit {0}

-- each refused request was refused for one of these reasons
abbrev pub AreCallRefusals : {A : Type 0} → Bool → List (Result A Refusal) → Type 0
AreCallRefusals seals [] = Unit {0}
AreCallRefusals seals (Ok answer ∷ rest) = AreCallRefusals seals rest
AreCallRefusals seals (Err e ∷ rest) = IsCallRefusal seals e × AreCallRefusals seals rest

-- why a table whose calls are all done isn't sealed
abbrev pub IsTableSealRefused : TableFault → Type 0
IsTableSealRefused (fault.Core core_fault.Memory) = Unit {0}
IsTableSealRefused fault.TooManyEpochs = Unit {0}
IsTableSealRefused fault.Memory = Unit {0}
IsTableSealRefused _ = ⊥

-- why an engine isn't sealed
abbrev pub IsSealRefused : Refusal → Type 0
IsSealRefused (Table (fault.Core (core_fault.NotAtRest c))) = Unit {0}
IsSealRefused (Table (fault.Core core_fault.Memory)) = Unit {0}
IsSealRefused (Table fault.TooManyEpochs) = Unit {0}
IsSealRefused (Table fault.Memory) = Unit {0}
IsSealRefused _ = ⊥

-- why an engine that waits until all calls are done isn't sealed
abbrev pub IsRestedSealRefused : Refusal → Type 0
IsRestedSealRefused (Table f) = IsTableSealRefused f
IsRestedSealRefused Memory = ⊥
