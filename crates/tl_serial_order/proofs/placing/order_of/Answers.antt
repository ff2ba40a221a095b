use Rattle.std.proofs.Common.{rules, ◌≡◌, sym, subst}
use Rattle.std.proofs.lemmas.Result.{IfOk-weaker}
use Rattle.tl_tree_locking.specs.History.{IsLegalHistory}
use Rattle.tl_tree_locking.specs.Order.{placed, Agrees}
use Rattle.tl_tree_locking.proofs.PlacedAgrees.{placed-agrees}
use Rattle.tl_serial_order.proofs.placing.order_of.Goals as goal

pub returns-in-Some-clause-agrees : goal.returns-in-Some-clause-agrees
returns-in-Some-clause-agrees c legal =
    let shape = c.args.shape.now in
    let past = c.args.history.now.past in
    let is : c.in-Some.order.calls ≡ placed shape past = search rules in
    subst (λ z. Agrees z past) (sym is) (placed-agrees shape c.node_count-nodes.ensures.tree past legal)

pub returns-clause-agrees : goal.returns-clause-agrees
returns-clause-agrees c =
    let shape = c.args.shape.now in
    let past = c.args.history.now.past in
    IfOk-weaker c.placed_order.result (λ o. o.calls ≡ placed shape past) (λ o. IsLegalHistory shape past → Agrees o.calls past)
    (λ o is legal. subst (λ z. Agrees z past) (sym is) (placed-agrees shape c.node_count-nodes.ensures.tree past legal)) c.placed_order.ensures.ok
