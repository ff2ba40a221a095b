use Rattle.std.proofs.Common.{pos, arith}
use Rattle.tl_store.specs.Recovered.{IsReplyOf}
use Rattle.tl_store.proofs.ReplyLemmas.{more_items}
use Rattle.tl_store.proofs.replies.check_replies.Goals as goal

pub loop-row-preserved : goal.loop-row-preserved
loop-row-preserved c =
    more_items (IsReplyOf c.args.core.now.seen (pos c.args.epoch)) c.args.rows.now c.loop-row.row-index c.row-item.result (omega arith) c.row-item.is c.in_ok-check_reply.ensures.right c.loop-row.invariant

pub returns-clause-right : goal.returns-clause-right
returns-clause-right c = λ k d less. c.loop-row.invariant k d (omega arith)
