use Rattle.tl_tree_locking.proofs.NoStandstill.{some_enabled, enabled_may_take, may_take_enabled}
use Rattle.tl_tree_locking.proofs.laws.no_standstill.Goals as goal

pub returns-clause-some_enabled : goal.returns-clause-some_enabled
returns-clause-some_enabled c = λ w call sound is_open. some_enabled w sound call is_open

pub returns-clause-may_take : goal.returns-clause-may_take
returns-clause-may_take c = λ w call sound enabled. enabled_may_take w sound call enabled

pub returns-clause-enabled : goal.returns-clause-enabled
returns-clause-enabled c = λ w call next may. may_take_enabled w call next may
