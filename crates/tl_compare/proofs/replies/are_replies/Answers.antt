use Rattle.std.proofs.Common.{rules, IsTrue, length, slice_index_or, refl, arith}
use Rattle.std.proofs.lemmas.Option.{slice_get_read, slice_get-get_or, slice_get_within}
use Rattle.tl_compare.specs.Epochs.{IsReplyOfCall}
use Rattle.tl_compare.proofs.RowLemmas.{pairs_more}
use Rattle.tl_compare.proofs.replies.are_replies.Goals as goal

pub loop-index-preserved : goal.loop-index-preserved
loop-index-preserved c =
    let calls = c.args.calls.now in
    let rows = c.args.rows.now in
    let index = c.loop-index.index in
    let yes : IsTrue c.in_ok-is_reply.field-0 = search rules in
    pairs_more (IsReplyOfCall c.args.core.now.seen c.args.epoch) calls rows index (slice_index_or calls index 0) c.index-rows-index.result (slice_get-get_or calls index 0 (omega arith))
    (slice_get_read rows (length rows) index c.index-rows-index.result refl (omega arith) c.index-rows-index.is) (c.in_ok-is_reply.ensures.0 yes) c.loop-index.invariant

pub returns : goal.returns
returns c = (
  λ yes. record {
    many = c.if-rows-calls.false;
    each = λ n call row found_call found_row. c.loop-index.invariant n call row (let less = slice_get_within c.args.rows.now n row found_row in omega arith) found_call found_row;
  },
  λ all. refl,
)
