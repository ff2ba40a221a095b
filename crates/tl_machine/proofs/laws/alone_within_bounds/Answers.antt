use Rattle.tl_machine.proofs.StartLemmas.{few_steps, few_locks, few_values}
use Rattle.tl_machine.proofs.laws.alone_within_bounds.Goals as goal

pub returns-clause-steps : goal.returns-clause-steps
returns-clause-steps s c parents args t valid acc tree size = few_steps c valid acc parents tree args t size

pub returns-clause-locks : goal.returns-clause-locks
returns-clause-locks s c parents args t valid acc tree size = few_locks c valid acc parents tree args t size

pub returns-clause-emits : goal.returns-clause-emits
returns-clause-emits s c parents args t valid acc tree size = few_values c valid acc parents tree args t size
