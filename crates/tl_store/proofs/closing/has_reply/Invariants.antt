use Rattle.std.proofs.Common.{◌≢◌, pos, take}
use Rattle.std.specs.Prelude.{All}
use Rattle.tl_store.proofs.closing.has_reply.Given as goal

-- the first rows are those of other calls
abbrev pub invariant-loop-row : goal.invariant-loop-row
invariant-loop-row l = All (λ r. r.call ≢ pos l.call) (take l.row-index l.rows)
