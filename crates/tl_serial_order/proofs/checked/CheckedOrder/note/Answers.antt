use Rattle.std.proofs.Common.{◌∷◌, sym, subst}
use Rattle.tl_tree_locking.specs.Rules.{KeepsRules, IsApart}
use Rattle.tl_serial_order.specs.Checked.{IsChecked}
use Rattle.tl_serial_order.proofs.checked.CheckedOrder.note.Goals as goal

pub returns-in-Lock-clause-checked : goal.returns-in-Lock-clause-checked
returns-in-Lock-clause-checked c past checked rules apart =
    let parents = c.args.shape.now in
    let is = c.in-Lock.is in
    subst (λ e. IsChecked parents c.note_lock.new.self (e ∷ past)) (sym is)
    (c.note_lock.ensures.checked past c.in-Lock.found checked (subst (KeepsRules parents past) is rules) (subst (IsApart past) is apart))

pub returns-in-Free-clause-checked : goal.returns-in-Free-clause-checked
returns-in-Free-clause-checked c past checked rules apart =
    let parents = c.args.shape.now in
    let is = c.in-Free.is in
    subst (λ e. IsChecked parents c.note_free.new.self (e ∷ past)) (sym is) (c.note_free.ensures.checked past c.in-Free.left checked (subst (KeepsRules parents past) is rules))
