use Rattle.tl_store_laws.proofs.Columns.{ledger_is_store}
use Rattle.tl_store_laws.proofs.laws.rows_are_read.Goals as goal

pub returns : goal.returns
returns c = λ contents v ledger. ledger_is_store contents v ledger
