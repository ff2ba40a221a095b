use Rattle.tl_journal_laws.proofs.Resting.{begins}
use Rattle.tl_journal_laws.proofs.laws.pending_begins.Goals as goal

pub returns : goal.returns
returns c = λ contents v p ledger marked records empty. begins contents v p ledger marked records empty
