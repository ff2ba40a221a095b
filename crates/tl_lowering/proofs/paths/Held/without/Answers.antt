use Rattle.std.proofs.Common.{arith}
use Rattle.tl_lowering.proofs.BitLemmas.{cleared_bit}
use Rattle.tl_lowering.proofs.paths.Held.without.Goals as goal

pub returns-clause-nodes : goal.returns-clause-nodes
returns-clause-nodes c = rw c.bit.ensures (cleared_bit c.args.self.nodes c.args.register (omega arith))
