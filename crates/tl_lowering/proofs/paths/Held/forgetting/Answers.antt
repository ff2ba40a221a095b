use Rattle.std.proofs.Common.{arith}
use Rattle.tl_lowering.proofs.BitLemmas.{minus_bits}
use Rattle.tl_lowering.proofs.paths.Held.forgetting.Goals as goal

pub returns-clause-passed : goal.returns-clause-passed
returns-clause-passed c = minus_bits c.args.self.visited c.args.nodes (omega arith)
