use Rattle.std.proofs.Common.{◌≢◌, inl, inr, refl}
use Rattle.tl_audit.specs.declared.fault.AuditFault.TheVariants as audit
use Rattle.tl_audit.proofs.chain.next_order.Goals as goal

pub returns-in-Ok-clause-ok : goal.returns-in-Ok-clause-ok
returns-in-Ok-clause-ok g c = (c.takes_over_at.ensures.0 c.if-not-takes_over_at.false, c.in-Ok.ensures.clean, c.opening-fact.ensures.trail, c.in-Ok.ensures.order)

pub returns-in-Err-clause-fault : goal.returns-in-Err-clause-fault
returns-in-Err-clause-fault g c ne =
    let other : c.in-Err.fault ≢ audit.Memory = λ e. ne (c.in_epoch.ensures.memory e) in
    inr (c.takes_over_at.ensures.0 c.if-not-takes_over_at.false, (c.in-Err.fault, c.in_epoch.ensures.other other, c.in-Err.ensures.fault other))

pub returns-then-not-takes_over_at-clause-fault : goal.returns-then-not-takes_over_at-clause-fault
returns-then-not-takes_over_at-clause-fault g c ne =
    inl (refl, (λ takes. let yes = c.takes_over_at.ensures.1 takes in let no = c.if-not-takes_over_at.true in let e : ⊥ = cc in e))
