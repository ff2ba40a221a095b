use Rattle.tl_lowering.specs.Naming.{takes}
use Rattle.tl_lowering.proofs.lowering.Lowering.take.Goals as goal

pub returns-clause-named : goal.returns-clause-named
returns-clause-named c = takes c.in_ok-node.ensures.meaning c.in_ok-other.ensures.meaning
