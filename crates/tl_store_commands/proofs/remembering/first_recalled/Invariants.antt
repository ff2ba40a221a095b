use Rattle.std.specs.Prelude.{◌<◌, ◌≤◌, ◌+◌, ℕ, suc, map}
use Rattle.tl_ledger.specs.News.{seal_columns}
use Rattle.tl_store_commands.specs.declared.remembering.TheConstants.{RECALLED}
use Rattle.tl_store_commands.specs.Remembering.{Began}
use Rattle.tl_store_commands.proofs.remembering.first_recalled.Given as goal

-- none of the epochs so far has one of the last calls
abbrev pub invariant-loop-epoch : goal.invariant-loop-epoch
invariant-loop-epoch l = (k calls replies place : ℕ) → k < l.epoch → Began (map seal_columns l.seals) (suc k) calls replies → place < calls → l.marks.calls ≤ place + RECALLED → ⊥
