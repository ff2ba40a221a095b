use Rattle.std.proofs.Common.{length}
use Rattle.tl_lowering.proofs.lowering.Lowering.+left_with.Given as goal

abbrev pub decreases-left_with : goal.decreases-left_with
decreases-left_with l = length l.values.now
