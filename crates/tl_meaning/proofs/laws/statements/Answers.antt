use Rattle.tl_meaning.proofs.EveryRuns.{every_runs}
use Rattle.tl_meaning.proofs.laws.statements.Goals as goal

pub returns : goal.returns
returns c = λ code parents frames a held x rest s u ready tail site sound agrees. every_runs parents ready a held x rest frames s u tail site sound agrees
