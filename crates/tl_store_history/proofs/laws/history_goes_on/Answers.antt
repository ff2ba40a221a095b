use Rattle.tl_rows.specs.Batches.{batch_of}
use Rattle.tl_store_history.proofs.Kept.{history_stays, history_longer}
use Rattle.tl_store_history.proofs.laws.history_goes_on.Goals as goal

pub returns-clause-same : goal.returns-clause-same
returns-clause-same c = λ contents t es news history none of. history_stays contents (batch_of news) t es history none of

pub returns-clause-sealed : goal.returns-clause-sealed
returns-clause-sealed c = λ contents t es e news history one of takes has. history_longer contents (batch_of news) t es e history one of takes has
