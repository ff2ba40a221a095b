use Rattle.tl_store_history.proofs.Starts.{history_founds}
use Rattle.tl_store_history.proofs.laws.history_is_founded.Goals as goal

pub returns : goal.returns
returns c = λ t limit first parents of records procedures. history_founds t limit first parents of records procedures
