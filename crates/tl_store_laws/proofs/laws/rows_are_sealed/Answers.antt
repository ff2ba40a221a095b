use Rattle.tl_rows.specs.Batches.{batch_of}
use Rattle.tl_store_laws.proofs.Seal.{ledger_seals}
use Rattle.tl_store_laws.proofs.laws.rows_are_sealed.Goals as goal

pub returns : goal.returns
returns c = λ contents v w news old later reached came. ledger_seals contents v w (batch_of news) old later reached came
