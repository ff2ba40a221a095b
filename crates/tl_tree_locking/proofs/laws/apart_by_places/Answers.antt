use Rattle.tl_tree_locking.proofs.Apart.{apart_frees, frees_apart}
use Rattle.tl_tree_locking.proofs.laws.apart_by_places.Goals as goal

pub returns : goal.returns
returns c = λ events. (apart_frees events, frees_apart events)
