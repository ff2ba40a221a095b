use Rattle.tl_tree_locking.proofs.ReachedWorlds.{serial-agreeing}
use Rattle.tl_tree_locking.proofs.laws.serial_along.Goals as goal

pub returns-clause-tree : goal.returns-clause-tree
returns-clause-tree c = λ w order sound over agrees. (serial-agreeing w sound over order agrees).0

pub returns-clause-replies : goal.returns-clause-replies
returns-clause-replies c = λ w order sound over agrees. (serial-agreeing w sound over order agrees).1
