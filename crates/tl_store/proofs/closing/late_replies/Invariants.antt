use Rattle.std.proofs.Common.{pos, length, ◌≤◌}
use Rattle.tl_store.specs.Closing.{AreLateReplies}
use Rattle.tl_store.proofs.closing.late_replies.Given as goal

-- the replies so far are those of the first calls, one for each at most
abbrev pub invariant-loop-call : goal.invariant-loop-call
invariant-loop-call l = AreLateReplies l.call l.core.seen (pos l.stored.marks.seals) l.stored.replies.items l.late.items × (length l.late.items ≤ l.call)
