use Rattle.tl_warnings.specs.Failing.{condition, lock}
use Rattle.tl_warnings.proofs.failing.question_may_fail.Goals as goal

pub returns-in-Condition : goal.returns-in-Condition
returns-in-Condition c = rw c.in-Condition.is (condition c.may_fail.ensures)

pub returns-in-Lock : goal.returns-in-Lock
returns-in-Lock c = rw c.in-Lock.is lock
