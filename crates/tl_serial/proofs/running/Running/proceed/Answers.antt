use Rattle.std.proofs.Common.{sym, subst, refl}
use Rattle.std.specs.Prelude.{IfOk}
use Rattle.tl_core.specs.Followed.{Proceeds}
use Rattle.tl_serial_order.specs.Kept.{IsKept}
use Rattle.tl_serial.proofs.OrderSteps.{proceeds_parents, proceeds_stopped, proceeds_still, same_size}
use Rattle.tl_serial.proofs.running.Running.proceed.Goals as goal

pub take_up-requires-clause-size : goal.take_up-requires-clause-size
take_up-requires-clause-size c =
    let last = c.in-Some.ensures.some in
    let proceeds = subst (λ r. IfOk r (λ s. Proceeds c.self.inside.core c.args.call s c.proceed-stepped.new.self)) last.1 c.proceed-stepped.ensures.proceeds in
    same_size c.self.inside.order c.self.inside.core.seen.parents c.proceed-stepped.new.self.seen.parents (proceeds_parents _ _ c.args.call last.0 proceeds) c.self.invariant.size

pub take_up-requires-clause-stopped : goal.take_up-requires-clause-stopped
take_up-requires-clause-stopped c =
    let last = c.in-Some.ensures.some in
    let proceeds = subst (λ r. IfOk r (λ s. Proceeds c.self.inside.core c.args.call s c.proceed-stepped.new.self)) last.1 c.proceed-stepped.ensures.proceeds in
    (c.self.inside.core.seen.past, proceeds_stopped c.self.inside.core c.proceed-stepped.new.self c.args.call c.in-Some.stop last.0 last.2 proceeds)

pub invariant_of-self : goal.invariant_of-self
invariant_of-self c =
    let last = c.in-Some.ensures.some in
    let proceeds = subst (λ r. IfOk r (λ s. Proceeds c.self.inside.core c.args.call s c.proceed-stepped.new.self)) last.1 c.proceed-stepped.ensures.proceeds in
    let stopped = proceeds_stopped c.self.inside.core c.proceed-stepped.new.self c.args.call c.in-Some.stop last.0 last.2 proceeds in
    let kept = subst (λ shape. IsKept c.self.inside.order shape c.self.inside.core.seen.past) (sym (proceeds_parents _ _ c.args.call last.0 proceeds)) c.self.invariant.kept in
    c.take_up.ensures c.self.inside.core.seen.past stopped kept

pub invariant_of-self-in_default : goal.invariant_of-self-in_default
invariant_of-self-in_default c =
    let still = proceeds_still c.self.inside.core c.proceed-stepped.new.self c.args.call c.proceed-stepped.result c.proceed-stepped.ensures.proceeds c.proceed-stepped.ensures.err (c.in_default.ensures.none refl) in
    record {
      kept = subst (λ shape. IsKept c.self.inside.order shape c.proceed-stepped.new.self.seen.past) (sym still.1)
          (subst (IsKept c.self.inside.order c.self.inside.core.seen.parents) (sym still.0) c.self.invariant.kept);
      size = same_size c.self.inside.order c.self.inside.core.seen.parents c.proceed-stepped.new.self.seen.parents still.1 c.self.invariant.size;
      calls = c.self.invariant.calls;
    }
