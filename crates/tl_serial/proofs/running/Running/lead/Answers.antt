use Rattle.std.proofs.Common.{sym, subst}
use Rattle.std.specs.Prelude.{IfOk}
use Rattle.tl_core.specs.Followed.{Submits}
use Rattle.tl_serial_order.specs.Kept.{IsKept}
use Rattle.tl_serial.specs.Running.{HasStopped}
use Rattle.tl_serial.proofs.OrderSteps.{gone_stopped, gone_parents, same_size}
use Rattle.tl_serial.proofs.running.Running.lead.Goals as goal

pub take_up-requires-clause-size : goal.take_up-requires-clause-size
take_up-requires-clause-size c =
    let sub = subst (λ r. IfOk r (λ o. Submits c.self.inside.core c.args.call c.args.lent.now c.lead-led.new.lent o c.lead-led.new.self)) c.in-Ok.is c.lead-led.ensures.ok in
    let gone = (c.in-Some.ensures.some c.self.inside.core c.lead-led.new.self c.args.call sub.segment _ sub.led).0 in
    same_size c.self.inside.order c.self.inside.core.seen.parents c.lead-led.new.self.seen.parents (gone_parents c.self.inside.core c.lead-led.new.self c.args.call sub.segment gone) c.self.invariant.size

pub take_up-requires-clause-stopped : goal.take_up-requires-clause-stopped
take_up-requires-clause-stopped c =
    let sub = subst (λ r. IfOk r (λ o. Submits c.self.inside.core c.args.call c.args.lent.now c.lead-led.new.lent o c.lead-led.new.self)) c.in-Ok.is c.lead-led.ensures.ok in
    let went = c.in-Some.ensures.some c.self.inside.core c.lead-led.new.self c.args.call sub.segment _ sub.led in (
      c.self.inside.core.seen.past,
      subst (λ s. HasStopped c.lead-led.new.self.seen c.args.call s c.self.inside.core.seen.past) went.1 (gone_stopped c.self.inside.core c.lead-led.new.self c.args.call sub.segment went.0),
    )

pub invariant_of-self : goal.invariant_of-self
invariant_of-self c =
    let sub = subst (λ r. IfOk r (λ o. Submits c.self.inside.core c.args.call c.args.lent.now c.lead-led.new.lent o c.lead-led.new.self)) c.in-Ok.is c.lead-led.ensures.ok in
    let went = c.in-Some.ensures.some c.self.inside.core c.lead-led.new.self c.args.call sub.segment _ sub.led in
    let stopped = subst (λ s. HasStopped c.lead-led.new.self.seen c.args.call s c.self.inside.core.seen.past) went.1 (gone_stopped c.self.inside.core c.lead-led.new.self c.args.call sub.segment went.0) in
    let parents = gone_parents c.self.inside.core c.lead-led.new.self c.args.call sub.segment went.0 in
    let kept = subst (λ shape. IsKept c.self.inside.order shape c.self.inside.core.seen.past) (sym parents) c.self.invariant.kept in
    c.take_up.ensures c.self.inside.core.seen.past stopped kept
