use Rattle.tl_tree_locking.proofs.ObeysByPlaces.{obeys_alone}
use Rattle.tl_machine.specs.Outcomes.{meaning}
use Rattle.tl_machine.proofs.StartLemmas.{obeys, ends, is_alone}
use Rattle.tl_machine.proofs.laws.alone_obeys.Goals as goal

pub returns-clause-obeys : goal.returns-clause-obeys
returns-clause-obeys s c parents args t valid acc tree size = obeys c valid acc parents tree args t size

pub returns-clause-by_places : goal.returns-clause-by_places
returns-clause-by_places s c parents args t valid acc tree size = obeys_alone parents (meaning c.instrs parents args) (is_alone c parents args valid acc tree) t size

pub returns-clause-ends : goal.returns-clause-ends
returns-clause-ends s c parents args t valid acc tree size = ends c valid acc parents tree args t size
