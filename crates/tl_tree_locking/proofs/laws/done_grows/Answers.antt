use Rattle.tl_tree_locking.proofs.DoneSteps.{done_own, done_others, done_admitted, none_admitted}
use Rattle.tl_tree_locking.proofs.laws.done_grows.Goals as goal

pub returns-clause-own : goal.returns-clause-own
returns-clause-own c = λ w call next sound may. done_own w call next sound may

pub returns-clause-others : goal.returns-clause-others
returns-clause-others c = λ w call d next other. done_others w call d next other

pub returns-clause-admission : goal.returns-clause-admission
returns-clause-admission c = λ w alone d lt. done_admitted w alone d lt

pub returns-clause-admitted : goal.returns-clause-admitted
returns-clause-admitted c = λ w alone. none_admitted w alone
