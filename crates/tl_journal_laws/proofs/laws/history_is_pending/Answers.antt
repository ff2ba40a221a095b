use Rattle.tl_journal_laws.proofs.Behind.{behind_begins, behind_stored}
use Rattle.tl_journal_laws.proofs.laws.history_is_pending.Goals as goal

pub returns-clause-begins : goal.returns-clause-begins
returns-clause-begins c = λ contents t es v p h marked records empty. behind_begins contents t es v p h marked records empty

pub returns-clause-stored : goal.returns-clause-stored
returns-clause-stored c = λ contents t es v old new behind empty rest. behind_stored contents t es v old new behind empty rest
