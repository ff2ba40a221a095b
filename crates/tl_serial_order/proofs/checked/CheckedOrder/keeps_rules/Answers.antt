use Rattle.std.proofs.Common.{sym, subst}
use Rattle.std.specs.Prelude.{IsTrue, ◌↔◌}
use Rattle.tl_tree_locking.specs.Rules.{KeepsRules}
use Rattle.tl_serial_order.proofs.checked.CheckedOrder.keeps_rules.Goals as goal

pub returns-in-Lock : goal.returns-in-Lock
returns-in-Lock c past checked =
    subst (λ e. IsTrue c.may_lock.result ↔ KeepsRules c.args.shape.now past e) (sym c.in-Lock.is) (c.may_lock.ensures past c.in-Lock.found checked)

pub returns-in-Free : goal.returns-in-Free
returns-in-Free c past checked =
    subst (λ e. IsTrue c.may_free.result ↔ KeepsRules c.args.shape.now past e) (sym c.in-Free.is) (c.may_free.ensures c.args.shape.now past c.in-Free.left checked)
