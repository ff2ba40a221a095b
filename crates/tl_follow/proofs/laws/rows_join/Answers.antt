use Rattle.tl_follow.proofs.FollowLemmas.{joined}
use Rattle.tl_follow.proofs.laws.rows_join.Goals as goal

pub returns : goal.returns
returns c = λ rows a b d ab bd. joined rows a b d ab bd
