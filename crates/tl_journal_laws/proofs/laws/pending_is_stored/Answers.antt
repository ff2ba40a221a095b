use Rattle.tl_journal_laws.proofs.Resting.{stored}
use Rattle.tl_journal_laws.proofs.laws.pending_is_stored.Goals as goal

pub returns-clause-now : goal.returns-clause-now
returns-clause-now c = λ contents v p pending. pending.ledger

pub returns-clause-next : goal.returns-clause-next
returns-clause-next c = λ contents v old new pending empty rest. stored contents v old new pending empty rest
