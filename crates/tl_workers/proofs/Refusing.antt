-- Why a call isn't admitted: the table's rules, for an engine that seals its epochs by itself and for one that doesn't.
use Rattle.std.proofs.Common.{◌≡◌, ◌≢◌, ℕ, ◌<◌, Bool, true, false, List, [], ◌∷◌, ◌++◌, length, ap, sym, subst}
use Rattle.std.proofs.lemmas.Bool.{false≢true}
use Rattle.std.specs.Prelude.{ℤ, Option, Some, None, Ok, Err, Result, IfErr, if◌then◌else◌, nat_eq, nat_lt, nat_le, option_map}
use Rattle.std.specs.Option.{option_map_or}
use Rattle.tl_procedures.specs.Names.{Named, number_of}
use Rattle.tl_core.specs.declared.fault.CoreFault.{CoreFault}
use Rattle.tl_core.specs.declared.fault.CoreFault.TheVariants as core_fault
use Rattle.tl_core.specs.Cores.{CallValue, CoreValue, total, open_calls, places, room}
use Rattle.tl_tree_locking.specs.History.{is_done}
use Rattle.tl_core.specs.Entries.{admission_refusal, refusal_of, procedure_at}
use Rattle.tl_history.specs.declared.history.TheConstants.{MAX_CALLS}
use Rattle.tl_core.specs.declared.interleaving.TheConstants.{MAX_OPEN}
use Rattle.tl_table.specs.Epochs.{EpochValue, seen, epoch_after, table_refusal, IsAdmitFault}
use Rattle.tl_table.specs.declared.fault.TableFault.{TableFault}
use Rattle.tl_table.specs.declared.fault.TableFault.TheVariants as fault
use Rattle.tl_table.specs.declared.receipt.Receipt.{Receipt}
use Rattle.tl_workers.specs.declared.asking.Asking.{Asking}
use Rattle.tl_workers.specs.declared.refusal.Refusal.{Refusal}
use Rattle.tl_workers.specs.Kept.{ReceiptsEach}
use Rattle.tl_workers.specs.Refusals.{IsAdmitRefused, IsCallRefusal, AreCallRefusals, IsTableSealRefused}

-- the faults with which a core may refuse
abbrev CoreRefuses : Bool → Option CoreFault → Type 0
CoreRefuses seals None = Unit {0}
CoreRefuses seals (Some f) = IsAdmitRefused seals (fault.Core f)

-- the faults with which a table may refuse
abbrev TableRefuses : Bool → Option TableFault → Type 0
TableRefuses seals None = Unit {0}
TableRefuses seals (Some f) = IsAdmitRefused seals f

by_tests : (arity calls opened places : Bool)
    → CoreRefuses false (if arity then (if calls then (if opened then (if places then None else Some core_fault.HistoryFull) else Some core_fault.TooManyOpen) else Some core_fault.TooManyCalls) else Some core_fault.WrongArgs)
by_tests false calls opened places = tt
by_tests true false opened places = tt
by_tests true true false places = tt
by_tests true true true false = tt
by_tests true true true true = tt

by_number : (v : CoreValue) (args : List ℤ) (p : Option ℕ) → CoreRefuses false (option_map_or (λ n. refusal_of v (procedure_at v n) args) p (Some core_fault.NoProcedure))
by_number v args None = tt
by_number v args (Some n) =
    by_tests (nat_eq (length args) (procedure_at v n).code.arity) (nat_lt (length v.calls) MAX_CALLS) (nat_lt (open_calls v) MAX_OPEN) (nat_le (places (procedure_at v n).code.instrs (length v.parents)) (room v))

-- an epoch without calls isn't full, and has no open calls
by_tests_afresh : (arity calls opened places : Bool) → calls ≡ true → opened ≡ true
    → CoreRefuses true (if arity then (if calls then (if opened then (if places then None else Some core_fault.HistoryFull) else Some core_fault.TooManyOpen) else Some core_fault.TooManyCalls) else Some core_fault.WrongArgs)
by_tests_afresh false calls opened places c o = tt
by_tests_afresh true false opened places c o = absurd (false≢true c)
by_tests_afresh true true false places c o = absurd (false≢true o)
by_tests_afresh true true true false c o = tt
by_tests_afresh true true true true c o = tt

by_number_afresh : (v : CoreValue) (args : List ℤ) (p : Option ℕ) → v.calls ≡ [] → CoreRefuses true (option_map_or (λ n. refusal_of v (procedure_at v n) args) p (Some core_fault.NoProcedure))
by_number_afresh v args None empty = tt
by_number_afresh v args (Some n) empty =
    by_tests_afresh (nat_eq (length args) (procedure_at v n).code.arity) (nat_lt (length v.calls) MAX_CALLS) (nat_lt (open_calls v) MAX_OPEN) (nat_le (places (procedure_at v n).code.instrs (length v.parents)) (room v))
    (ap (λ (cs : List CallValue). nat_lt (length cs) MAX_CALLS) empty)
    (ap (λ (cs : List CallValue). nat_lt (total (λ c. if is_done c v.past then 0 else 1) (length cs)) MAX_OPEN) empty)

by_session : (seals test : Bool) (o : Option CoreFault) → CoreRefuses seals o → TableRefuses seals (if test then option_map fault.Core o else Some fault.NoSession)
by_session seals false o h = tt
by_session seals true None h = tt
by_session seals true (Some f) h = h

by_fault : (seals : Bool) (t : EpochValue) (session : ℕ) (name : List ℕ) (args : List ℤ) (e : TableFault) → TableRefuses seals (table_refusal t session name args) → IsAdmitFault t session name args e → IsAdmitRefused seals e
by_fault seals t session name args (fault.Core f) h g = subst (TableRefuses seals) (g.0 (λ e. cc)) h
by_fault seals t session name args fault.Stale h g = subst (TableRefuses seals) (g.0 (λ e. cc)) h
by_fault seals t session name args fault.NoSession h g = tt
by_fault seals t session name args fault.TooManyEpochs h g = subst (TableRefuses seals) (g.0 (λ e. cc)) h
by_fault seals t session name args fault.TooManySessions h g = subst (TableRefuses seals) (g.0 (λ e. cc)) h
by_fault seals t session name args fault.Memory h g = tt

-- a table that isn't sealed for the call
pub admit_refused : (t : EpochValue) (session : ℕ) (name : List ℕ) (args : List ℤ) (e : TableFault) → IsAdmitFault t session name args e → IsAdmitRefused false e
admit_refused t session name args e =
    by_fault false t session name args e (by_session false (nat_lt session t.sessions) (admission_refusal (seen t) name args) (by_number (seen t) args (number_of (seen t).procedures name)))

-- a table whose current epoch has no calls
pub admit_refused_afresh : (t : EpochValue) (session : ℕ) (name : List ℕ) (args : List ℤ) (e : TableFault) → (seen t).calls ≡ [] → IsAdmitFault t session name args e → IsAdmitRefused true e
admit_refused_afresh t session name args e empty =
    by_fault true t session name args e (by_session true (nat_lt session t.sessions) (admission_refusal (seen t) name args) (by_number_afresh (seen t) args (number_of (seen t).procedures name) empty))

-- a table that was just sealed
pub sealed_afresh : (t u : EpochValue) → u ≡ epoch_after t → (seen u).calls ≡ []
sealed_afresh t u is = ap (λ (e : EpochValue). (seen e).calls) is

-- a table that can't be sealed
pub seal_refused : (e : TableFault) → IsTableSealRefused e → IsAdmitRefused true e
seal_refused (fault.Core core_fault.WrongArgs) h = absurd h
seal_refused (fault.Core core_fault.NoProcedure) h = absurd h
seal_refused (fault.Core core_fault.NoCall) h = absurd h
seal_refused (fault.Core core_fault.TooManyCalls) h = absurd h
seal_refused (fault.Core core_fault.TooManyOpen) h = absurd h
seal_refused (fault.Core core_fault.HistoryFull) h = absurd h
seal_refused (fault.Core (core_fault.NotAtRest c)) h = absurd h
seal_refused (fault.Core core_fault.NotFrom) h = absurd h
seal_refused (fault.Core core_fault.Memory) h = tt
seal_refused fault.Stale h = absurd h
seal_refused fault.NoSession h = absurd h
seal_refused fault.TooManyEpochs h = tt
seal_refused fault.TooManySessions h = absurd h
seal_refused fault.Memory h = tt

-- a batch answers each refused request with the reason of the refusal
pub receipts_refused : (seals : Bool) (all : List (Result Asking Refusal)) (rs : List (Result Receipt Refusal)) → ReceiptsEach all rs → AreCallRefusals seals all → AreCallRefusals seals rs
receipts_refused seals [] [] h g = tt
receipts_refused seals [] (r ∷ rs) h g = absurd h
receipts_refused seals (Ok a ∷ all) [] h g = absurd h
receipts_refused seals (Ok a ∷ all) (Ok r ∷ rs) h g = receipts_refused seals all rs h.3 g
receipts_refused seals (Ok a ∷ all) (Err f ∷ rs) h g = absurd h
receipts_refused seals (Err e ∷ all) [] h g = absurd h
receipts_refused seals (Err e ∷ all) (Ok r ∷ rs) h g = absurd h
receipts_refused seals (Err e ∷ all) (Err f ∷ rs) h g = (subst (IsCallRefusal seals) (sym h.0) g.0, receipts_refused seals all rs h.1 g.1)

pushed : (seals : Bool) (all : List (Result Asking Refusal)) (one : Result Asking Refusal) → AreCallRefusals seals all → IfErr one (IsCallRefusal seals) → AreCallRefusals seals (all ++ one ∷ [])
pushed seals [] (Ok a) h e = tt
pushed seals [] (Err f) h e = (e, tt)
pushed seals (Ok a ∷ all) one h e = pushed seals all one h e
pushed seals (Err f ∷ all) one h e = (h.0, pushed seals all one h.1 e)

-- one more request
pub refused-push : (seals : Bool) (all now : List (Result Asking Refusal)) (one : Result Asking Refusal) → AreCallRefusals seals all → IfErr one (IsCallRefusal seals) → now ≡ all ++ one ∷ [] → AreCallRefusals seals now
refused-push seals all now one h e is = subst (AreCallRefusals seals) (sym is) (pushed seals all one h e)
