use Rattle.std.proofs.Common.{sym, subst}
use Rattle.std.specs.Prelude.{IfOk}
use Rattle.tl_core.specs.Followed.{IsFollowed}
use Rattle.tl_serial_order.specs.Kept.{IsKept}
use Rattle.tl_serial.specs.Running.{HasStopped}
use Rattle.tl_serial.proofs.OrderSteps.{gone_stopped, gone_parents, same_size}
use Rattle.tl_serial.proofs.running.Running.follow.Goals as goal

pub take_up-requires-clause-size : goal.take_up-requires-clause-size
take_up-requires-clause-size c =
    let followed = subst (λ r. IfOk r (λ f. IsFollowed c.self.inside.core c.args.call c.args.segment f c.follow-followed.new.self)) c.in-Ok.is c.follow-followed.ensures.followed in
    let gone = c.has_gone.ensures.gone c.self.inside.core c.follow-followed.new.self c.args.call c.args.segment followed c.if-has_gone.true in
    same_size c.self.inside.order c.self.inside.core.seen.parents c.follow-followed.new.self.seen.parents (gone_parents c.self.inside.core c.follow-followed.new.self c.args.call c.args.segment gone) c.self.invariant.size

pub take_up-requires-clause-stopped : goal.take_up-requires-clause-stopped
take_up-requires-clause-stopped c =
    let followed = subst (λ r. IfOk r (λ f. IsFollowed c.self.inside.core c.args.call c.args.segment f c.follow-followed.new.self)) c.in-Ok.is c.follow-followed.ensures.followed in
    let gone = c.has_gone.ensures.gone c.self.inside.core c.follow-followed.new.self c.args.call c.args.segment followed c.if-has_gone.true in (
      c.self.inside.core.seen.past,
      subst (λ s. HasStopped c.follow-followed.new.self.seen c.args.call s c.self.inside.core.seen.past) (sym c.stop-stop.ensures.stop) (gone_stopped c.self.inside.core c.follow-followed.new.self c.args.call c.args.segment gone),
    )

pub invariant_of-self : goal.invariant_of-self
invariant_of-self c =
    let followed = subst (λ r. IfOk r (λ f. IsFollowed c.self.inside.core c.args.call c.args.segment f c.follow-followed.new.self)) c.in-Ok.is c.follow-followed.ensures.followed in
    let gone = c.has_gone.ensures.gone c.self.inside.core c.follow-followed.new.self c.args.call c.args.segment followed c.if-has_gone.true in
    let stopped = subst (λ s. HasStopped c.follow-followed.new.self.seen c.args.call s c.self.inside.core.seen.past) (sym c.stop-stop.ensures.stop) (gone_stopped c.self.inside.core c.follow-followed.new.self c.args.call c.args.segment gone) in
    let parents = gone_parents c.self.inside.core c.follow-followed.new.self c.args.call c.args.segment gone in
    let kept = subst (λ shape. IsKept c.self.inside.order shape c.self.inside.core.seen.past) (sym parents) c.self.invariant.kept in
    c.take_up.ensures c.self.inside.core.seen.past stopped kept
