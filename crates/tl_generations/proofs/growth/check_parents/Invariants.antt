use Rattle.tl_generations.specs.Growth.{AreLower}
use Rattle.tl_generations.proofs.growth.check_parents.Given as goal

abbrev pub invariant-loop-index : goal.invariant-loop-index
invariant-loop-index l = AreLower l.first l.parents l.index
