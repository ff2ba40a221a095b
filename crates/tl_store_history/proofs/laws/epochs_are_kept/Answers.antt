use Rattle.tl_rows.specs.Batches.{batch_of}
use Rattle.tl_store_history.proofs.Kept.{epoch_compared, epoch_stays}
use Rattle.tl_store_history.proofs.laws.epochs_are_kept.Goals as goal

pub returns-clause-compared : goal.returns-clause-compared
returns-clause-compared c = λ contents n rows v there are. epoch_compared contents n rows v there are

pub returns-clause-stay : goal.returns-clause-stay
returns-clause-stay c = λ contents n v news has. epoch_stays contents (batch_of news) n v has
