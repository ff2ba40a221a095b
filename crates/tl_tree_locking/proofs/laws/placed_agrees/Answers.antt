use Rattle.tl_tree_locking.proofs.PlacedAgrees.{placed-agrees}
use Rattle.tl_tree_locking.proofs.laws.placed_agrees.Goals as goal

pub returns : goal.returns
returns c = λ parents past tree legal. placed-agrees parents tree past legal
