use Rattle.tl_rows.specs.Batches.{batch_of}
use Rattle.tl_store_laws.proofs.Widen.{ledger_widens}
use Rattle.tl_store_laws.proofs.laws.rows_are_widened.Goals as goal

pub returns : goal.returns
returns c = λ contents v added news old none came. ledger_widens contents v added (batch_of news) old none came
