use Rattle.tl_store_laws.proofs.Again.{ledger_joined}
use Rattle.tl_store_laws.proofs.laws.rows_are_joined.Goals as goal

pub returns : goal.returns
returns c = λ contents a b v inside twice. ledger_joined contents a b v inside twice
