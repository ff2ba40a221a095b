use Rattle.std.proofs.lemmas.Result.{on_ok_weaker}
use Rattle.tl_warnings.specs.Finding.{condition, lock}
use Rattle.tl_warnings.proofs.finding.asked.Goals as goal

pub returns-in-Condition : goal.returns-in-Condition
returns-in-Condition c = rw c.in-Condition.is condition

pub returns-in-Lock : goal.returns-in-Lock
returns-in-Lock c = rw c.in-Lock.is (on_ok_weaker c.placed.result (λ w. lock w) c.placed.ensures)
