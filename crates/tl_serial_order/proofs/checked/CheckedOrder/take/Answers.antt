use Rattle.std.proofs.Common.{◌∷◌, sym, subst}
use Rattle.std.specs.Prelude.{IsTrue, ◌↔◌}
use Rattle.tl_serial_order.specs.Checked.{IsChecked, IsLegal}
use Rattle.tl_serial_order.proofs.checked.CheckedOrder.take.Goals as goal

pub returns-in-Lock-clause-legal : goal.returns-in-Lock-clause-legal
returns-in-Lock-clause-legal c past checked =
    subst (λ e. IsTrue c.take_lock.result ↔ IsLegal c.args.shape.now c.args.self.now past e) (sym c.in-Lock.is) (c.take_lock.ensures.legal past c.in-Lock.found checked)

pub returns-in-Lock-clause-taken : goal.returns-in-Lock-clause-taken
returns-in-Lock-clause-taken c taken past checked =
    subst (λ e. IsChecked c.args.shape.now c.take_lock.new.self (e ∷ past)) (sym c.in-Lock.is) (c.take_lock.ensures.taken taken past c.in-Lock.found checked)

pub returns-in-Free-clause-legal : goal.returns-in-Free-clause-legal
returns-in-Free-clause-legal c past checked =
    subst (λ e. IsTrue c.take_free.result ↔ IsLegal c.args.shape.now c.args.self.now past e) (sym c.in-Free.is) (c.take_free.ensures.legal past c.in-Free.left checked)

pub returns-in-Free-clause-taken : goal.returns-in-Free-clause-taken
returns-in-Free-clause-taken c taken past checked =
    subst (λ e. IsChecked c.args.shape.now c.take_free.new.self (e ∷ past)) (sym c.in-Free.is) (c.take_free.ensures.taken taken past c.in-Free.left checked)
