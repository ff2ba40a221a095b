use Rattle.tl_journal_laws.proofs.Widened.{widened_now}
use Rattle.tl_journal_laws.proofs.laws.pending_is_widened.Goals as goal

pub returns : goal.returns
returns c = λ contents v added old new pending none grows few. widened_now contents v added old new pending none grows few
