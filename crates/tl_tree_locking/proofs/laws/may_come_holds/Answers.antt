use Rattle.tl_tree_locking.proofs.MayComeLemmas.{may_holds, may_come_holds}
use Rattle.tl_tree_locking.proofs.laws.may_come_holds.Goals as goal

pub returns-clause-holder : goal.returns-clause-holder
returns-clause-holder c = λ parents done x tree may. may_come_holds parents tree done x may

pub returns-clause-listed : goal.returns-clause-listed
returns-clause-listed c = λ parents done x may. may_holds parents done x may
