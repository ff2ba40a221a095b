use Rattle.tl_lowering.proofs.NumberLemmas.{calculated_of}
use Rattle.tl_lowering.proofs.values.calculated.Goals as goal

pub returns-clause-named : goal.returns-clause-named
returns-clause-named c = calculated_of c.in_ok-left.ensures.ok c.in_ok-right.ensures.ok
