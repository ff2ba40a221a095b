use Rattle.tl_lowering.proofs.lowering.Lowering.+with_nothing.Given as goal

abbrev pub decreases-with_nothing : goal.decreases-with_nothing
decreases-with_nothing l = l.count
