use Rattle.tl_store_laws.proofs.Idle.{kept}
use Rattle.tl_store_laws.proofs.laws.rows_are_kept.Goals as goal

pub returns : goal.returns
returns c = λ contents v w old made reached_v reached_w none. kept contents v w old made reached_v reached_w none
