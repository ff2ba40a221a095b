use Rattle.std.proofs.Common.{◌≡◌, length, option_copied, refl, sym, ap, ◌∙◌, inl, inr, arith}
use Rattle.std.proofs.lemmas.List.{length-map}
use Rattle.tl_rows.specs.Rows.{fields_in}
use Rattle.tl_export.specs.Epochs.{known_before}
use Rattle.tl_export.proofs.NewLemmas.{new_none, row_more, rows_enough}
use Rattle.tl_export.proofs.taking.first_records.Goals as goal

pub loop-node-init : goal.loop-node-init
loop-node-init c =
    let base = known_before c.args.plan.now (option_copied c.args.before) in
    let rows = c.in_ok-rows.rows.items in
    let long : length rows ≡ length base = sym (length-map rows fields_in) ∙ ap length c.in_ok-rows.ensures in
    let start : c.len-node.result ≡ length base = omega (arith, c.len-node.ensures, long) in
    (c.in_ok-rows.ensures ∙ sym (new_none base c.len-node.result (omega (arith, start))), omega (arith, start), inr start)

pub loop-node-preserved : goal.loop-node-preserved
loop-node-preserved c =
    let base = known_before c.args.plan.now (option_copied c.args.before) in
    let so_far = c.loop-node.invariant in
    (row_more base c.loop-node._node c.loop-node.rows.items c.push.new.self.items _ so_far.1 so_far.0 refl c.in_ok-push.ensures.items, omega (arith, so_far.1), inl (omega (arith, c.loop-node-test.true)))

pub returns : goal.returns
returns c =
    let base = known_before c.args.plan.now (option_copied c.args.before) in
    let so_far = c.loop-node.invariant in
    so_far.0 ∙ rows_enough base c.args.nodes c.loop-node._node so_far.2 (omega (arith, c.loop-node-test.false)) so_far.1
