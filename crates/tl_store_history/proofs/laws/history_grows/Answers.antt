use Rattle.tl_rows.specs.Batches.{batch_of}
use Rattle.tl_store_history.proofs.Whole.{history_grows}
use Rattle.tl_store_history.proofs.laws.history_grows.Goals as goal

pub returns : goal.returns
returns c = λ contents t es v w news h later reached came replied. history_grows contents (batch_of news) t es v w h later reached came replied
