use Rattle.std.proofs.Common.{length}
use Rattle.tl_lowering.proofs.lowering.Lowering.+all_computed.Given as goal

abbrev pub decreases-all_computed : goal.decreases-all_computed
decreases-all_computed l = length l.writes.now
