use Rattle.tl_store_laws.proofs.Readable.{readable}
use Rattle.tl_store_laws.proofs.laws.rows_are_readable.Goals as goal

pub returns : goal.returns
returns c = λ contents v old reached wide few. readable contents v old reached wide few
