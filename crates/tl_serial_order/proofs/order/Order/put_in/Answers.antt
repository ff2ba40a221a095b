use Rattle.std.proofs.Common.{sym, subst}
use Rattle.tl_tree_locking.specs.Order.{IsDistinct}
use Rattle.tl_serial_order.proofs.Lines.{IsDistinct-insert}
use Rattle.tl_serial_order.proofs.order.Order.put_in.Goals as goal

pub invariant_of-self : goal.invariant_of-self
invariant_of-self c =
    let requires = rw (sym c.self.view_is) at c.requires in
    subst IsDistinct (sym (c.in-Ok.ensures).items) (IsDistinct-insert c.self.inside.calls.items c.args.place c.args.call requires.new c.self.invariant)
