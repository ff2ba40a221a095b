use Rattle.tl_rows.specs.Batches.{batch_of}
use Rattle.tl_store_history.proofs.Starts.{history_widens}
use Rattle.tl_store_history.proofs.laws.history_is_widened.Goals as goal

pub returns : goal.returns
returns c = λ contents t es v more news h none fresh came of. history_widens contents (batch_of news) t es v more h none fresh came of
