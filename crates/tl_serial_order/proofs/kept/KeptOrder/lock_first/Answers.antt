use Rattle.std.proofs.Common.{Some, set, ap, ◌∙◌}
use Rattle.tl_serial_order.proofs.KeptOrders.{kept_first}
use Rattle.tl_serial_order.proofs.kept.KeptOrder.lock_first.Goals as goal

pub returns-clause-kept : goal.returns-clause-kept
returns-clause-kept c past found kept legal =
    let put = c.put_in.ensures in
    let held = c.hold.ensures in
    kept_first c.args.shape.now c.requires.tree c.args.self.now c.hold.new.self past c.args.call c.args.node c.place_at-place.result found c.requires.new kept legal
    (c.place_at-place.ensures.place past c.args.call kept)
    (ap (λ k. k.order.calls) held ∙ put.order)
    (ap (λ k. k.holders) held ∙ ap (λ h. set h c.args.node (Some c.args.call)) put.holders)
    (ap (λ k. k.under) held ∙ put.under)
