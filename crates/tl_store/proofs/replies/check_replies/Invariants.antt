use Rattle.std.proofs.Common.{ℕ, ◌<◌, pos, get_or}
use Rattle.tl_ledger.specs.declared.rows.ReplyRow.{ReplyRow}
use Rattle.tl_store.specs.Recovered.{IsReplyOf}
use Rattle.tl_store.proofs.replies.check_replies.Given as goal

-- the first rows have replies of the core's calls
abbrev pub invariant-loop-row : goal.invariant-loop-row
invariant-loop-row l = (n : ℕ) (d : ReplyRow) → n < l.row-index → IsReplyOf l.core.seen (pos l.epoch) (get_or l.rows n d)
