use Rattle.std.proofs.Common.{◌≡◌, ℕ, ◌<◌, pos, get_or}
use Rattle.tl_ledger.specs.declared.rows.TurnRow.{TurnRow}
use Rattle.tl_store.proofs.turns.are_of_epoch.Given as goal

-- the first rows are of the epoch
abbrev pub invariant-loop-row : goal.invariant-loop-row
invariant-loop-row l = (n : ℕ) (d : TurnRow) → n < l.row-index → (get_or l.rows n d).epoch ≡ pos l.epoch
