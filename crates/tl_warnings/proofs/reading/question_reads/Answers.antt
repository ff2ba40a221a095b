use Rattle.tl_warnings.specs.Reading.{condition, lock}
use Rattle.tl_warnings.proofs.reading.question_reads.Goals as goal

pub returns-in-Condition : goal.returns-in-Condition
returns-in-Condition c = rw c.in-Condition.is (condition c.reads.ensures)

pub returns-in-Lock : goal.returns-in-Lock
returns-in-Lock c = rw c.in-Lock.is (lock c.place_reads.ensures)
