use Rattle.tl_lowering.specs.Choosing.{enters_condition, enters_lock}
use Rattle.tl_lowering.proofs.lowering.Lowering.entrance.Goals as goal

pub returns-in_ok-condition-in-Condition-clause-named : goal.returns-in_ok-condition-in-Condition-clause-named
returns-in_ok-condition-in-Condition-clause-named c = rw c.in-Condition.is (enters_condition c.in_ok-condition-in-Condition.ensures.named)

pub returns-in_ok-place-in-Lock-clause-named : goal.returns-in_ok-place-in-Lock-clause-named
returns-in_ok-place-in-Lock-clause-named c = rw c.in-Lock.is (enters_lock c.in_ok-place-in-Lock.ensures.named)
