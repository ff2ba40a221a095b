use Rattle.tl_lowering.proofs.JoinLemmas.{at_offset_of}
use Rattle.tl_lowering.proofs.lowering.Lowering.at.Goals as goal

pub returns-clause-named : goal.returns-clause-named
returns-clause-named c = at_offset_of c.in_ok-boxed.ensures
