use Rattle.tl_serial.proofs.OrderSteps.{admitted_order}
use Rattle.tl_serial.proofs.running.Running.admit.Goals as goal

pub invariant_of-self : goal.invariant_of-self
invariant_of-self c =
    admitted_order c.self.inside.order c.self.inside.core c.admit-admitted.new.self c.args.name.now c.args.args.now c.admit-admitted.result
    c.admit-admitted.ensures.ok c.admit-admitted.ensures.err c.admitted.ensures c.self.invariant
