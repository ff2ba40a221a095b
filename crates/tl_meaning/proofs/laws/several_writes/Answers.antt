use Rattle.tl_meaning.proofs.WriteRuns.{several_fail}
use Rattle.tl_meaning.proofs.laws.several_writes.Goals as goal

pub returns : goal.returns
returns c = several_fail
