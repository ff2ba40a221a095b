use Rattle.tl_lowering.proofs.NumberLemmas.{not_of}
use Rattle.tl_lowering.proofs.values.negated.Goals as goal

pub returns-clause-named : goal.returns-clause-named
returns-clause-named c = not_of c.in_ok-new.ensures.ok
