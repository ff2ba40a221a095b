use Rattle.std.proofs.Common.{◌≡◌, ◌<◌, ◌+◌, length, map, take, sym, subst, arith, rules, w64, of_z, to_z}
use Rattle.tl_rows.specs.Rows.{reply_form}
use Rattle.tl_pending.specs.Pendings.{Appends, answer_form}
use Rattle.tl_pending.proofs.AppendedLemmas.{next_more}
use Rattle.tl_pending.proofs.pending.push_replies.Goals as goal

pub loop-answer-preserved : goal.loop-answer-preserved
loop-answer-preserved c =
    let answers = c.args.answers.now in
    let epoch = to_z w64 (of_z w64 c.args.epoch) in
    let answer = c.answer-item.result in
    let row = c.in_ok-reply_row.field-0 in
    let less : c.loop-answer.answer-index < length answers = omega (arith, c.loop-answer-test.true) in
    let formed : reply_form row ≡ answer_form epoch answer = search rules in
    subst (Appends reply_form (map (answer_form epoch) (take (c.loop-answer.answer-index + 1) answers)) c.args.rows.now.items) (sym c.in_ok-push.ensures.items)
    (next_more reply_form (answer_form epoch) answers c.loop-answer.answer-index answer row c.args.rows.now.items c.loop-answer.rows.items less c.answer-item.is formed c.loop-answer.invariant)
