use Rattle.tl_meaning.proofs.Leaving.{left_empty}
use Rattle.tl_meaning.proofs.laws.all_is_freed.Goals as goal

pub returns : goal.returns
returns c = left_empty
