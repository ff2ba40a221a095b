use Rattle.tl_lowering.proofs.JoinLemmas.{binds_value_of}
use Rattle.tl_lowering.proofs.lowering.Lowering.let_in.Goals as goal

pub returns-clause-named : goal.returns-clause-named
returns-clause-named c = binds_value_of c.in_ok-boxed.ensures
