use Rattle.tl_journal_laws.proofs.Replaced.{replaced_now, replaced_history}
use Rattle.tl_journal_laws.proofs.Widened.{widened_now, widened_history}
use Rattle.tl_journal_laws.proofs.laws.pending_history_stays.Goals as goal

pub returns-clause-replaced : goal.returns-clause-replaced
returns-clause-replaced c = λ contents t es v others old new behind none fresh known accepted replaces few. record {
  pending = replaced_now contents v others old new behind.pending none fresh known accepted replaces few;
  history = replaced_history contents v others old new behind.pending none fresh known accepted replaces few t es behind.history;
}

pub returns-clause-widened : goal.returns-clause-widened
returns-clause-widened c = λ contents t es v added old new behind none fresh grows few small. record {
  pending = widened_now contents v added old new behind.pending none grows few;
  history = widened_history contents v added old new behind.pending none grows few fresh small t es behind.history;
}
