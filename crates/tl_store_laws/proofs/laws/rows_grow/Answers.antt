use Rattle.tl_rows.specs.Batches.{batch_of}
use Rattle.tl_store_laws.proofs.Grow.{ledger_grows}
use Rattle.tl_store_laws.proofs.laws.rows_grow.Goals as goal

pub returns : goal.returns
returns c = λ contents v w news ledger later reached came. ledger_grows contents v w (batch_of news) ledger later reached came
