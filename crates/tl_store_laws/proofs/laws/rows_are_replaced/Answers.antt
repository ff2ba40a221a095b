use Rattle.tl_rows.specs.Batches.{batch_of}
use Rattle.tl_store_laws.proofs.Replace.{ledger_replaces}
use Rattle.tl_store_laws.proofs.laws.rows_are_replaced.Goals as goal

pub returns : goal.returns
returns c = λ contents v others news old none fresh came. ledger_replaces contents v others (batch_of news) old none fresh came
