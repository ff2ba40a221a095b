use Rattle.tl_audit.proofs.AuditAnswers.{verdict}
use Rattle.tl_audit.proofs.auditing.audit_with.Goals as goal

pub returns : goal.returns
returns g c = verdict c.args.trail.now c.opening-fact.ensures.trail c.judge.result c.judge.ensures.clean c.judge.ensures.order c.judge.ensures.fault
