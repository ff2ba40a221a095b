use Rattle.tl_meaning.proofs.NumberRuns.{into_runs}
use Rattle.tl_meaning.proofs.laws.numbers.Goals as goal

pub returns : goal.returns
returns c = λ code parents frames e x t failure rest s ready tail le inside readable size. into_runs parents ready frames e x t failure rest s tail le inside readable size
