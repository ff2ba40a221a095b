use Rattle.tl_journal_laws.proofs.Replaced.{replaced_now}
use Rattle.tl_journal_laws.proofs.laws.pending_is_replaced.Goals as goal

pub returns : goal.returns
returns c = λ contents v others old new pending none fresh known accepted replaces few. replaced_now contents v others old new pending none fresh known accepted replaces few
