use Rattle.tl_lowering.proofs.AlikeTexts.{one_program}
use Rattle.tl_lowering.proofs.laws.one_program.Goals as goal

pub returns : goal.returns
returns c = record { programs = λ text procedures others x y. one_program x y }
