use Rattle.std.proofs.Common.{[], ap, ◌∙◌, map, arith}
use Rattle.std.proofs.lemmas.List.{take_all}
use Rattle.std.proofs.lemmas.List.Elements.{All-more}
use Rattle.serde_json.specs.Data.{array}
use Rattle.serde_json.specs.View.{view, items_of}
use Rattle.serde_json.proofs.Views.{view-Array}
use Rattle.tl_tree.specs.Writing.{integers_data}
use Rattle.tl_tree.specs.Trees.{IsRecord}
use Rattle.tl_tree.proofs.Items.{views_more}
use Rattle.tl_tree.proofs.value.records_to_value.Goals as goal

pub returns-clause-value : goal.returns-clause-value
returns-clause-value c =
    view-Array c.loop-fields.items ∙ ap (λ ds. array (items_of ds)) (c.loop-fields.invariant.0 ∙ ap (map integers_data) (take_all c.loop-fields.fields-index c.args.records.now (omega arith)))

pub loop-fields-preserved : goal.loop-fields-preserved
loop-fields-preserved c =
    let records = c.args.records.now in
    let i = c.loop-fields.fields-index in
    let made = c.in_ok-record_to_value.ensures in (
      ap (map view) c.in_ok-push.ensures.items ∙ views_more integers_data c.loop-fields.items.items c.in_ok-record_to_value.field-0 records i [] (omega arith) c.loop-fields.invariant.0 made.value,
      All-more IsRecord records i [] (omega arith) c.loop-fields.invariant.1 made.«record»,
    )
