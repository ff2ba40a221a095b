use Rattle.tl_tree_locking.proofs.Counts.{locks_within, part_locks_within, frees_within}
use Rattle.tl_tree_locking.proofs.laws.locks_counted.Goals as goal

pub returns-clause-locks : goal.returns-clause-locks
returns-clause-locks c = λ parents done nodes obeys inside. locks_within parents nodes done obeys inside

pub returns-clause-frees : goal.returns-clause-frees
returns-clause-frees c = λ parents done obeys. frees_within parents done obeys

pub returns-clause-world : goal.returns-clause-world
returns-clause-world c = λ w call sound. part_locks_within w sound call
