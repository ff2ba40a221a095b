use Rattle.std.proofs.Common.{ℕ, Bool, length, sym, ◌∙◌, arith}
use Rattle.tl_tree_locking.specs.Actions.{may_come}
use Rattle.tl_tree_locking.specs.History.{part_of}
use Rattle.tl_serial_order.proofs.Lines.{put_before-insert}
use Rattle.tl_serial_order.proofs.placing.first_coming.Goals as goal

pub returns-then-may_come-clause-first : goal.returns-then-may_come-clause-first
returns-then-may_come-clause-first c past call shown =
    let order = c.args.order.now in
    let place = c.loop-place.place in
    let passes = sym (c.may_come.ensures past shown) ∙ c.if-may_come.true in
    put_before-insert (λ e. may_come c.args.shape.now (part_of e past) c.args.node) call order place 0 (omega (arith, c.loop-place-test.true))
    (c.loop-place.invariant past shown) (λ _. passes)

pub returns-clause-first : goal.returns-clause-first
returns-clause-first c past call shown =
    let order = c.args.order.now in
    let test : ℕ → Bool = λ e. may_come c.args.shape.now (part_of e past) c.args.node in
    put_before-insert test call order (length order) 0 (omega arith)
    (λ k h. c.loop-place.invariant past shown k (omega (arith, c.loop-place-test.false)))
    (λ h. absurd (omega arith))
