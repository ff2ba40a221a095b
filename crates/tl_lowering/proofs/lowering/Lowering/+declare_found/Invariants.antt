use Rattle.std.proofs.Common.{length}
use Rattle.tl_lowering.proofs.lowering.Lowering.+declare_found.Given as goal

abbrev pub decreases-declare_found : goal.decreases-declare_found
decreases-declare_found l = length l.names.now
