use Rattle.tl_store_history.proofs.Kept.{history_founded}
use Rattle.tl_store_history.proofs.laws.history_begins.Goals as goal

pub returns : goal.returns
returns c = λ t first same. history_founded t first same
