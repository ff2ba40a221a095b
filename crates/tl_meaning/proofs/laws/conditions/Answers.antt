use Rattle.tl_meaning.proofs.ConditionRuns.{branch_runs}
use Rattle.tl_meaning.proofs.laws.conditions.Goals as goal

pub returns : goal.returns
returns c = λ code parents frames d sense label t failure rest s ready tail le le_label inside testable size. branch_runs parents ready frames d sense label t failure rest s tail le le_label inside testable size
