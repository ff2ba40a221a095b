use Rattle.tl_rows.specs.Batches.{batch_of}
use Rattle.tl_store_history.proofs.Starts.{history_replaces}
use Rattle.tl_store_history.proofs.laws.history_is_replaced.Goals as goal

pub returns : goal.returns
returns c = λ contents t es v others news h none fresh came. history_replaces contents (batch_of news) t es v others h none fresh came
