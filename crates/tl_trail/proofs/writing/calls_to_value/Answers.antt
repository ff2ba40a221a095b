use Rattle.std.proofs.Common.{ap, ◌∙◌, map, arith}
use Rattle.std.proofs.lemmas.List.{take_all}
use Rattle.std.proofs.lemmas.List.Elements.{All-more}
use Rattle.serde_json.specs.View.{view}
use Rattle.serde_json.proofs.Views.{view-Array}
use Rattle.tl_tree.proofs.Items.{views_more}
use Rattle.tl_trail.specs.Trails.{no_call}
use Rattle.tl_json.specs.Lists.{list_data}
use Rattle.tl_trail.specs.Writing.{call_data, FitsText}
use Rattle.tl_trail.proofs.writing.calls_to_value.Goals as goal

pub loop-call-preserved : goal.loop-call-preserved
loop-call-preserved c =
    let trail = c.args.trail.now in
    let i = c.loop-call.call in
    let made = c.in_ok-call_to_value.ensures in (
      ap (map view) c.in_ok-push.ensures.items ∙ views_more (call_data trail.procedures) c.loop-call.items.items c.in_ok-call_to_value.field-0 trail.calls i no_call (omega arith) c.loop-call.invariant.0 made.value,
      All-more FitsText trail.calls i no_call (omega arith) c.loop-call.invariant.1 made.told,
    )

pub returns-clause-value : goal.returns-clause-value
returns-clause-value c =
    view-Array c.loop-call.items ∙ ap list_data (c.loop-call.invariant.0 ∙ ap (map (call_data c.args.trail.now.procedures)) (take_all c.loop-call.call c.args.trail.now.calls (omega arith)))
