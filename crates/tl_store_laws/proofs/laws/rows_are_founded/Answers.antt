use Rattle.tl_store_laws.proofs.Founded.{founded}
use Rattle.tl_store_laws.proofs.laws.rows_are_founded.Goals as goal

pub returns : goal.returns
returns c = λ t limit first parents records procedures. founded t limit first parents records procedures
