use Rattle.std.proofs.Common.{◌≡◌, ◌≢◌, ◌∙◌, ap, length, take, get_or, [], Some, rules, sym, arith}
use Rattle.std.proofs.lemmas.List.{drop_all}
use Rattle.serde_json.specs.View.{view, items_view}
use Rattle.tl_width.specs.Fields.{field_count}
use Rattle.tl_tree.specs.Records.{width_of}
use Rattle.tl_tree.specs.Reading.{each_item, integer_of}
use Rattle.tl_tree.proofs.Items.{onto, other_width}
use Rattle.tl_tree.proofs.Widths.{number_read, zeros_behind, record_read}
use Rattle.tl_tree.proofs.value.record_from_items.Goals as goal

pub returns-then-items-count : goal.returns-then-items-count
returns-then-items-count c =
    let other : length c.args.items.now ≢ width_of c.args.width = rw (← c.count-count.ensures.count) c.if-items-count.true in
    other_width c.args.width c.args.items.now other

pub loop-i-preserved : goal.loop-i-preserved
loop-i-preserved c =
    let items = c.args.items.now in
    let i = c.loop-i.i in
    let is : integer_of (view (get_or items i c.index-items-i.result)) ≡ Some c.in_ok-fields.field-0 = search rules in
    let more = number_read c.loop-i.fields c.in_ok-fields.field-0 items i c.index-items-i.result (omega arith) (omega arith) is ∙ c.loop-i.invariant.2 in
    (search rules, zeros_behind c.loop-i.fields i field_count _ c.loop-i.invariant.1, search (more, rules))

pub returns : goal.returns
returns c =
    let items = c.args.items.now in
    let i = c.loop-i.i in
    let over : onto (take i c.loop-i.fields) (Some []) ≡ each_item integer_of (items_view items) =
    ap (λ vs. onto (take i c.loop-i.fields) (each_item integer_of (items_view vs))) (sym (drop_all i items (omega arith))) ∙ c.loop-i.invariant.2 in
    record_read c.args.width c.loop-i.fields i _ (omega arith) (omega arith) c.loop-i.invariant.0 c.loop-i.invariant.1 over
