use Rattle.std.proofs.Common.{arith}
use Rattle.tl_lowering.proofs.BitLemmas.{tested}
use Rattle.tl_lowering.proofs.paths.Held.has_visited.Goals as goal

pub returns : goal.returns
returns c = rw c.bit.ensures (tested c.args.self.visited c.args.register (omega arith))
