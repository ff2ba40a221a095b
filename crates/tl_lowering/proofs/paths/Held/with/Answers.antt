use Rattle.std.proofs.Common.{arith}
use Rattle.tl_lowering.proofs.BitLemmas.{set_bit, cleared_bit}
use Rattle.tl_lowering.proofs.paths.Held.with.Goals as goal

pub returns-clause-nodes : goal.returns-clause-nodes
returns-clause-nodes c = rw c.bit.ensures (set_bit c.args.self.nodes c.args.register (omega arith))

pub returns-clause-passed : goal.returns-clause-passed
returns-clause-passed c = rw c.bit-2.ensures (cleared_bit c.args.self.visited c.args.register (omega arith))
