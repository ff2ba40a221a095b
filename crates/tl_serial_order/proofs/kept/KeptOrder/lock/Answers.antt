use Rattle.std.proofs.Common.{sym, ◌∙◌}
use Rattle.tl_serial_order.proofs.kept.KeptOrder.lock.Goals as goal

pub returns-then-stands-clause-kept : goal.returns-then-stands-clause-kept
returns-then-stands-clause-kept c past found kept legal =
    c.lock_again.ensures.kept c.args.shape.now past found c.requires.tree (sym c.stands.ensures ∙ c.if-stands.true) kept legal
