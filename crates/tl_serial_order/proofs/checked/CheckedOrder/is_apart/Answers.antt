use Rattle.std.proofs.Common.{sym, subst}
use Rattle.std.specs.Prelude.{IsTrue, ◌↔◌}
use Rattle.tl_tree_locking.specs.Rules.{IsApart}
use Rattle.tl_serial_order.proofs.checked.CheckedOrder.is_apart.Goals as goal

pub returns-in-Lock : goal.returns-in-Lock
returns-in-Lock c parents past checked =
    subst (λ e. IsTrue c.is_free_for.result ↔ IsApart past e) (sym c.in-Lock.is) (c.is_free_for.ensures parents past c.in-Lock.found checked)
