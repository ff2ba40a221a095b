use Rattle.std.proofs.Common.{◌≡◌, ap, ◌∙◌, sym, map, codes, arith}
use Rattle.std.proofs.lemmas.List.{take_all}
use Rattle.std.proofs.lemmas.Result.{IfOk-weaker}
use Rattle.serde_json.specs.Data.{array, object, member, no_members}
use Rattle.serde_json.specs.View.{view, items_of}
use Rattle.tl_tree.proofs.Items.{views_more}
use Rattle.tl_tree.proofs.Texts.{map-map}
use Rattle.tl_json.specs.Lists.{calls_data, orders_data}
use Rattle.tl_table.specs.Chains.{calls_in}
use Rattle.tl_commands.proofs.ClosingLemmas.{order_form}
use Rattle.tl_commands.proofs.closing.all_orders_to_value.Goals as goal

pub loop-order-preserved : goal.loop-order-preserved
loop-order-preserved c =
    ap (map view) c.in_ok-push.ensures.items
    ∙ views_more order_form c.loop-order.items.items c.in_ok-calls_to_value.field-0 c.args.orders.now c.loop-order.order-index c.order-item.result (omega arith) c.loop-order.invariant
    (c.in_ok-calls_to_value.ensures ∙ ap calls_data c.calls.ensures.same ∙ ap order_form c.order-item.is)

pub returns : goal.returns
returns c =
    let all = c.loop-order.invariant ∙ ap (map order_form) (take_all c.loop-order.order-index c.args.orders.now (omega arith)) ∙ sym (map-map calls_data calls_in c.args.orders.now) in
    IfOk-weaker c.orders_to_value.result _ (λ v. view v ≡ orders_data (map calls_in c.args.orders.now))
    (λ v is. is ∙ ap (λ ds. object (member (codes "orders") (array (items_of ds)) no_members)) all)
    c.orders_to_value.ensures
