use Rattle.std.specs.Prelude.{◌≡◌, ◌<◌, ℕ, get_or}
use Rattle.tl_ledger.specs.declared.rows.ReplyRow.{ReplyRow}
use Rattle.tl_store_commands.specs.Remembering.{IsReplyTo}
use Rattle.tl_store_commands.proofs.remembering.reply_among.Given as goal

-- none of those so far is the call's
abbrev pub invariant-loop-reply : goal.invariant-loop-reply
invariant-loop-reply l = (k : ℕ) (r : ReplyRow) → k < l.reply-index → get_or l.replies k r ≡ r → IsReplyTo l.call r → ⊥
