use Rattle.tl_lowering.proofs.lowering.Lowering.+joined.Given as goal

abbrev pub decreases-joined : goal.decreases-joined
decreases-joined l = l.count
