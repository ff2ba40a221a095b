use Rattle.tl_machine.proofs.StartLemmas.{is_alone}
use Rattle.tl_machine.proofs.laws.alone_is_alone.Goals as goal

pub returns : goal.returns
returns s c parents args valid acc tree = is_alone c parents args valid acc tree
