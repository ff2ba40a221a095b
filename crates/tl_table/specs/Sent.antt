-- The result of submitting a segment to a table.
use Rattle.std.specs.Prelude.{◌≡◌, ◌≢◌, ℕ, ◌≤◌, ◌⊎◌, Some, length}
use Rattle.tl_machine.specs.Turns.{TurnValue, SegmentValue, LentValue, IsFrom}
use Rattle.tl_core.specs.declared.fault.CoreFault.TheVariants.{NoCall}
use Rattle.tl_core.specs.Cores.{kept_turn}
use Rattle.tl_core.specs.Followed.{HasGone, IsInTheWay}
use Rattle.tl_table.specs.declared.fault.TableFault.{TableFault}
use Rattle.tl_table.specs.declared.fault.TableFault.TheVariants as fault
use Rattle.tl_table.specs.declared.receipt.Sent.{Sent}
use Rattle.tl_table.specs.declared.receipt.Sent.TheVariants.{Went, Blocked, Finished}
use Rattle.tl_table.specs.Epochs.{EpochValue, seen, IsKnown, GoesOn, Stands}

-- the result: blocked, with nothing changed, if another call holds the node of the stop; otherwise the call has done the
-- segment's local actions and the action at its stop, and goes on with this turn or is done with this receipt
abbrev pub IsSent : EpochValue → ℕ → SegmentValue → Sent → EpochValue → Type 0
IsSent t c segment (Went turn) u = HasGone t.core c segment u.core × (kept_turn u.core c ≡ Some turn)
IsSent t c segment Blocked u = ((x : ℕ) × (d : ℕ) × IsInTheWay (seen t) segment.stop x d) × (u ≡ t)
IsSent t c segment (Finished r) u = HasGone t.core c segment u.core × (r.call ≡ c) × Stands u r

-- It is the same epoch at a later time, with the same sessions and calls.
pub record KeepsCalls (t u : EpochValue) : Type 0 where
  pub sessions : u.sessions ≡ t.sessions
  pub owners : u.owners ≡ t.owners
  pub goes_on : GoesOn t u

-- The segment begins at the call's kept turn and had this result. The turns of the other calls don't change.
pub record Sends (t : EpochValue) (c : ℕ) (segment : SegmentValue) (sent : Sent) (u : EpochValue) : Type 0 where
  pub from : kept_turn t.core c ≡ Some segment.from
  pub came : IsSent t c segment sent u
  pub turns : (d : ℕ) → d ≢ c → kept_turn u.core d ≡ kept_turn t.core d
  pub keeps : KeepsCalls t u

-- a receipt is that of the call
abbrev pub IsOfCall : ℕ → Sent → Type 0
IsOfCall c (Finished r) = r.call ≡ c
IsOfCall c sent = Unit {0}

-- NoCall if the call wasn't admitted, Stale if the segment doesn't begin at the call's kept turn
abbrev pub IsSubmitFault : EpochValue → ℕ → SegmentValue → TableFault → Type 0
IsSubmitFault t c segment e =
    ((e ≡ fault.Core NoCall) × (length (seen t).calls ≤ c))
    ⊎ ((e ≡ fault.Stale) × IsKnown t c × (kept_turn t.core c ≢ Some segment.from))

-- NoCall if the call wasn't admitted, Stale if it wasn't lent from its kept turn
abbrev pub IsLeadFault : EpochValue → ℕ → LentValue → TableFault → Type 0
IsLeadFault t c lent e =
    ((e ≡ fault.Core NoCall) × (length (seen t).calls ≤ c))
    ⊎ ((e ≡ fault.Stale) × IsKnown t c × ((turn : TurnValue) → kept_turn t.core c ≡ Some turn → IsFrom lent turn → ⊥))
