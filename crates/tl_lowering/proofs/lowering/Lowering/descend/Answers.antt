use Rattle.std.proofs.Common.{arith}
use Rattle.tl_lowering.specs.Naming.{descends}
use Rattle.tl_lowering.proofs.lowering.Lowering.descend.Goals as goal

pub returns-clause-named : goal.returns-clause-named
returns-clause-named c = descends (omega (arith, c.in_ok-next_node.ensures.room)) c.in_ok-node.ensures.meaning c.in_ok-number.ensures.named c.in_ok-number.ensures.room
