use Rattle.std.proofs.Common.{◌≡◌, ap, ◌∙◌, map, get_or, arith, rules}
use Rattle.std.proofs.lemmas.List.{take_all}
use Rattle.serde_json.specs.View.{view}
use Rattle.serde_json.proofs.Views.{view-Array}
use Rattle.tl_tree.proofs.Items.{views_more}
use Rattle.tl_json.specs.Lists.{natural, list_data}
use Rattle.tl_json.proofs.order.calls_to_value.Goals as goal

pub loop-call-preserved : goal.loop-call-preserved
loop-call-preserved c =
    let calls = c.args.calls.now in
    let i = c.loop-call.call-index in
    let made : view c.from.result ≡ natural (get_or calls i 0) = search rules in
    ap (map view) c.in_ok-push.ensures.items ∙ views_more natural c.loop-call.items.items c.from.result calls i 0 (omega arith) c.loop-call.invariant made

pub returns : goal.returns
returns c =
    view-Array c.loop-call.items ∙ ap list_data (c.loop-call.invariant ∙ ap (map natural) (take_all c.loop-call.call-index c.args.calls.now (omega arith)))
