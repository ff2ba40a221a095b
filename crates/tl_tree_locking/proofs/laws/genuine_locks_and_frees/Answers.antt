use Rattle.std.proofs.Common.{[], ap, ◌∙◌}
use Rattle.tl_tree_locking.specs.Actions.{locks_and_frees, taken}
use Rattle.tl_tree_locking.specs.World.{alone_of}
use Rattle.tl_tree_locking.proofs.SharedActions.{locks_and_frees-shared_actions}
use Rattle.tl_tree_locking.proofs.laws.genuine_locks_and_frees.Goals as goal

pub returns : goal.returns
returns c = λ alone opening past call k genuine. ap locks_and_frees genuine.is_part ∙ locks_and_frees-shared_actions (taken k (alone_of alone opening past call).actions [])
