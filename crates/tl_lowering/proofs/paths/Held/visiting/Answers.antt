use Rattle.std.proofs.Common.{arith}
use Rattle.tl_lowering.proofs.BitLemmas.{set_bit}
use Rattle.tl_lowering.proofs.paths.Held.visiting.Goals as goal

pub returns-clause-passed : goal.returns-clause-passed
returns-clause-passed c = rw c.bit.ensures (set_bit c.args.self.visited c.args.register (omega arith))
