use Rattle.tl_lowering.specs.Naming.{frees}
use Rattle.tl_lowering.proofs.lowering.Lowering.free.Goals as goal

pub returns-clause-named : goal.returns-clause-named
returns-clause-named c = frees c.in_ok-node.ensures.meaning
