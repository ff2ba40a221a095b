use Rattle.std.proofs.Common.{◌≡◌, None, length, sym, ap, ◌∙◌}
use Rattle.std.specs.Prelude.{insert, slice_get}
use Rattle.tl_tree_locking.specs.Order.{put_before}
use Rattle.tl_tree_locking.specs.Placing.{is_call, coming_calls}
use Rattle.tl_tree_locking.proofs.PlacingLemmas.{put_before-no_call}
use Rattle.tl_serial_order.proofs.Lines.{insert-end}
use Rattle.tl_serial_order.proofs.kept.KeptOrder.place_at.Goals as goal

pub returns-in-None-clause-place : goal.returns-in-None-clause-place
returns-in-None-clause-place c past call kept =
    let before = rw (sym c.self.view_is) at kept in
    let shape = c.args.shape.now in
    let order = c.self.inside.order.calls in
    let none : slice_get (coming_calls shape past c.args.node) 0 ≡ None = sym (c.nearest_coming.ensures past before.holders before.under) ∙ c.in-None.is in
    let put : put_before (is_call (slice_get (coming_calls shape past c.args.node) 0)) call order ≡ insert order (length order) call =
    ap (λ first. put_before (is_call first) call order) none ∙ put_before-no_call call order ∙ sym (insert-end order call) in
    rw (sym c.self.view_is, c.calls-in-None.ensures.same) put
