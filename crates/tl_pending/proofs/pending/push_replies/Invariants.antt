use Rattle.std.proofs.Common.{map, take}
use Rattle.tl_rows.specs.Rows.{reply_form}
use Rattle.tl_pending.specs.Pendings.{answer_form, Appends}
use Rattle.tl_pending.proofs.pending.push_replies.Given as goal

-- the rows of the first replies were appended
abbrev pub invariant-loop-answer : goal.invariant-loop-answer
invariant-loop-answer l = Appends reply_form (map (answer_form l.epoch) (take l.answer-index l.answers)) l.initial.rows.items l.rows.items
