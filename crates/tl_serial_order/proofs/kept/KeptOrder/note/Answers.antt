use Rattle.std.proofs.Common.{◌∷◌, sym, subst}
use Rattle.tl_tree_locking.specs.History.{IsLegalHistory}
use Rattle.tl_serial_order.specs.Kept.{IsKept}
use Rattle.tl_serial_order.proofs.kept.KeptOrder.note.Goals as goal

pub returns-in-Lock-clause-kept : goal.returns-in-Lock-clause-kept
returns-in-Lock-clause-kept c past kept legal =
    let shape = c.args.shape.now in
    let told = subst (λ e. IsLegalHistory shape (e ∷ past)) c.in-Lock.is legal in
    subst (λ e. IsKept c.lock.new.self shape (e ∷ past)) (sym c.in-Lock.is) (c.lock.ensures.kept past c.in-Lock.found kept told)

pub returns-in-Free-clause-kept : goal.returns-in-Free-clause-kept
returns-in-Free-clause-kept c past kept legal =
    let shape = c.args.shape.now in
    subst (λ e. IsKept c.free.new.self shape (e ∷ past)) (sym c.in-Free.is) (c.free.ensures.kept shape past c.in-Free.call c.in-Free.left kept)
