use Rattle.tl_warnings.specs.Failing.{set, add, subtract}
use Rattle.tl_warnings.proofs.failing.change_may_fail.Goals as goal

pub returns-in-Set : goal.returns-in-Set
returns-in-Set c = rw c.in-Set.is (set c.may_fail.ensures)

pub returns-in-Add : goal.returns-in-Add
returns-in-Add c = rw c.in-Add.is add

pub returns-in-Subtract : goal.returns-in-Subtract
returns-in-Subtract c = rw c.in-Subtract.is subtract
