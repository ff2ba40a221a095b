use Rattle.tl_lowering.proofs.NumberLemmas.{both_of}
use Rattle.tl_lowering.proofs.values.both.Goals as goal

pub returns-clause-named : goal.returns-clause-named
returns-clause-named c = both_of c.in_ok-first.ensures.ok c.in_ok-second.ensures.ok
