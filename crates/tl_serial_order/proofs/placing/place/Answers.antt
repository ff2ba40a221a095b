use Rattle.std.proofs.Common.{◌≡◌, ℕ, Bool, false, refl, sym, ap, ◌∙◌, subst}
use Rattle.std.proofs.lemmas.Result.{on_ok_weaker}
use Rattle.std.specs.Prelude.{insert}
use Rattle.tl_tree_locking.specs.declared.event.Event.TheVariants.{Lock}
use Rattle.tl_tree_locking.specs.Actions.{may_come}
use Rattle.tl_tree_locking.specs.History.{part_of, caller}
use Rattle.tl_tree_locking.specs.Order.{stands, put_before, placed_after}
use Rattle.tl_serial_order.proofs.placing.place.Goals as goal

pub returns-in-Lock-clause-ok : goal.returns-in-Lock-clause-ok
returns-in-Lock-clause-ok c = on_ok_weaker c.put_in.result (λ now past shown.
    let order = c.args.line.now.order in
    let call = c.caller-call.result in
    let test : ℕ → Bool = λ d. may_come c.args.shape.now (part_of d past) c.in-Lock.node in
    let first = c.first_coming-first.ensures.first past call shown in
    let at_order : put_before test call order ≡ insert order c.first_coming-first.result call =
    subst (λ ds. put_before test call ds ≡ insert ds c.first_coming-first.result call) c.calls.ensures.same first in
    let own : call ≡ c.in-Lock.call = c.caller-call.ensures ∙ ap caller c.in-Lock.is in
    let new : stands call order ≡ false = sym c.stands.ensures ∙ c.if-stands.false in
    let is_put : placed_after c.args.shape.now past (Lock c.in-Lock.node call c.in-Lock.found) order ≡ put_before test call order = rw new refl in
    let is_placed : placed_after c.args.shape.now past c.args.event.now order ≡ placed_after c.args.shape.now past (Lock c.in-Lock.node call c.in-Lock.found) order =
    ap (λ e. placed_after c.args.shape.now past e order) (c.in-Lock.is ∙ ap (λ d. Lock c.in-Lock.node d c.in-Lock.found) (sym own)) in
    ap (λ l. l.order) now ∙ sym (is_placed ∙ is_put ∙ at_order)) c.put_in.ensures
