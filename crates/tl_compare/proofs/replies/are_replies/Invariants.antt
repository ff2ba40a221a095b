use Rattle.std.proofs.Common.{◌≡◌, ◌<◌, ℕ, Some, slice_get}
use Rattle.tl_ledger.specs.declared.rows.ReplyRow.{ReplyRow}
use Rattle.tl_compare.specs.Epochs.{IsReplyOfCall}
use Rattle.tl_compare.proofs.replies.are_replies.Given as goal

-- the first rows have the replies of the first calls
abbrev pub invariant-loop-index : goal.invariant-loop-index
invariant-loop-index l =
    (n call : ℕ) (row : ReplyRow) → n < l.index → slice_get l.calls n ≡ Some call → slice_get l.rows n ≡ Some row → IsReplyOfCall l.core.seen l.epoch call row
