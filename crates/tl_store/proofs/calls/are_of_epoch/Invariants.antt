use Rattle.std.proofs.Common.{◌≡◌, ℕ, ◌<◌, pos, get_or}
use Rattle.tl_ledger.specs.declared.rows.CallRow.{CallRow}
use Rattle.tl_store.proofs.calls.are_of_epoch.Given as goal

-- the first rows are of the epoch
abbrev pub invariant-loop-call : goal.invariant-loop-call
invariant-loop-call l = (n : ℕ) (d : CallRow) → n < l.call-index → (get_or l.calls n d).epoch ≡ pos l.epoch
