use Rattle.std.proofs.Common.{◌<◌, ◌+◌, length, map, take, sym, subst, arith, w64, of_z, to_z}
use Rattle.tl_news.specs.News.{asked}
use Rattle.tl_pending.specs.Pendings.{Appends, admitted_in, admitted_from}
use Rattle.tl_pending.proofs.CallLemmas.{request_more}
use Rattle.tl_pending.proofs.pending.push_calls.Goals as goal

pub loop-index-preserved : goal.loop-index-preserved
loop-index-preserved c =
    let calls = c.args.calls.now in
    let epoch = to_z w64 (of_z w64 c.args.epoch) in
    let less : c.loop-index.index < length calls = omega (arith, c.loop-index-test.true) in
    subst (Appends admitted_in (admitted_from c.args.claims.now epoch c.args.first (map asked (take (c.loop-index.index + 1) calls))) c.args.rows.now.items) (sym c.in_ok-push.ensures.items)
    (request_more c.args.claims.now epoch c.args.first c.loop-index.index c.more-number.result calls c.index-calls-index.result c.in_ok-new_row.field-0 c.args.rows.now.items c.loop-index.rows.items
    less c.index-calls-index.is c.more-number.ensures c.in_ok-new_row.ensures c.loop-index.invariant)
