use Rattle.tl_tree_locking.proofs.NoStandstill.{sound_history}
use Rattle.tl_tree_locking.proofs.laws.sound_history.Goals as goal

pub returns : goal.returns
returns c = λ w sound. sound_history w sound
