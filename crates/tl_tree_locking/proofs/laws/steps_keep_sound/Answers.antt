use Rattle.tl_tree_locking.proofs.ReachedWorlds.{sound_after_admission, sound_after_step}
use Rattle.tl_tree_locking.proofs.laws.steps_keep_sound.Goals as goal

pub returns-clause-admission : goal.returns-clause-admission
returns-clause-admission c = λ w alone sound is_alone. sound_after_admission w alone sound is_alone

pub returns-clause-step : goal.returns-clause-step
returns-clause-step c = λ w call next sound may. sound_after_step w call next sound may
