-- What a turnstile does with a call while nothing is to be sealed.
use Rattle.std.specs.Prelude.{◌≡◌, ◌⊎◌, ℕ, ℤ, Bool, false, List, Option, Result, IfOk, IfSome}
use Rattle.tl_core.specs.declared.fault.CoreFault.TheVariants as core_fault
use Rattle.tl_table.specs.Epochs.{EpochValue, IsAdmitFault, IsAdmittedTo, epoch_after}
use Rattle.tl_table.specs.Tables.{TableValue}
use Rattle.tl_table.specs.declared.fault.TableFault.{TableFault}
use Rattle.tl_table.specs.declared.fault.TableFault.TheVariants as fault

-- too many calls, or events, for the epoch
abbrev pub IsFullEpoch : TableFault → Type 0
IsFullEpoch (fault.Core core_fault.TooManyCalls) = Unit {0}
IsFullEpoch (fault.Core core_fault.HistoryFull) = Unit {0}
IsFullEpoch _ = ⊥

-- the epoch refuses the call for one of these
abbrev pub IsFullFor : EpochValue → ℕ → List ℕ → List ℤ → Type 0
IsFullFor e session name args = (f : TableFault) × IsAdmitFault e session name args f × IsFullEpoch f

-- a call that was admitted was admitted after this epoch's calls, as one of this session
abbrev pub AdmitsTo : EpochValue → ℕ → List ℕ → List ℤ → Option (Result ℕ TableFault) → EpochValue → Type 0
AdmitsTo e session name args answer new = IfSome answer (λ r. IfOk r (λ n. IsAdmittedTo e session name args n new))

-- nothing was sealed and nothing is to be sealed, and a call that was admitted is in this epoch; or this epoch is full for the call, and a call that
-- was admitted is in the next one
abbrev pub AdmitsOpen : TableValue → ℕ → List ℕ → List ℤ → Option (Result ℕ TableFault) → TableValue → Bool → Type 0
AdmitsOpen old session name args answer new is_closed =
    ((new.sealed ≡ old.sealed) × (is_closed ≡ false) × AdmitsTo old.current session name args answer new.current)
    ⊎ (IsFullFor old.current session name args × AdmitsTo (epoch_after old.current) session name args answer new.current)
