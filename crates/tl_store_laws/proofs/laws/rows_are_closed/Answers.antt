use Rattle.tl_store_laws.proofs.Closed.{closed}
use Rattle.tl_store_laws.proofs.laws.rows_are_closed.Goals as goal

pub returns : goal.returns
returns c = λ contents rows v w news old later same reached stored closing. closed contents rows v w news old later same reached stored closing
