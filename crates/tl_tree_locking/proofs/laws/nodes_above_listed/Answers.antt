use Rattle.tl_tree_locking.proofs.Ancestors.{nodes_above-above, above-nodes_above}
use Rattle.tl_tree_locking.proofs.laws.nodes_above_listed.Goals as goal

pub returns : goal.returns
returns c = λ parents x y tree. (nodes_above-above parents tree x y, λ h. above-nodes_above parents tree x y h.0 h.1)
