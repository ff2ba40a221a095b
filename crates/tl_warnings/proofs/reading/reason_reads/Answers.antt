use Rattle.tl_warnings.specs.Reading.{no_reason, reason}
use Rattle.tl_warnings.proofs.reading.reason_reads.Goals as goal

pub returns-in-Some : goal.returns-in-Some
returns-in-Some c = rw c.in-Some.is (reason c.reads.ensures)

pub returns-in-None : goal.returns-in-None
returns-in-None c = rw c.in-None.is no_reason
