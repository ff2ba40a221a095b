use Rattle.std.proofs.Common.{arith}
use Rattle.tl_lowering.proofs.BitLemmas.{one_bit}
use Rattle.tl_lowering.proofs.descents.bit.Goals as goal

pub returns : goal.returns
returns c = λ n. one_bit _ c.args.register n (omega arith) c.with.ensures.nodes
