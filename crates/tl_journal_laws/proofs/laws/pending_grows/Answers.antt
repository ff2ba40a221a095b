use Rattle.tl_journal_laws.proofs.Step.{goes_on, goes_over}
use Rattle.tl_journal_laws.proofs.laws.pending_grows.Goals as goal

pub returns-clause-open : goal.returns-clause-open
returns-clause-open c = λ contents v w number owners came old new pending later reached each few accepted adds is. goes_on contents v w number owners came old new pending later reached each few accepted adds is

pub returns-clause-over : goal.returns-clause-over
returns-clause-over c = λ contents v w number owners came old new pending later reached each few accepted adds is. goes_over contents v w number owners came old new pending later reached each few accepted adds is
