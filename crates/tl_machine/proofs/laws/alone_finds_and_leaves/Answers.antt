use Rattle.tl_machine.proofs.StartLemmas.{locks_find, long, left_is, reply_is}
use Rattle.tl_machine.proofs.laws.alone_finds_and_leaves.Goals as goal

pub returns-clause-finds : goal.returns-clause-finds
returns-clause-finds s c parents args t valid acc tree size = locks_find c valid acc parents tree args t size

pub returns-clause-size : goal.returns-clause-size
returns-clause-size s c parents args t valid acc tree size = long c valid acc parents tree args t size

pub returns-clause-leaves : goal.returns-clause-leaves
returns-clause-leaves s c parents args t valid acc tree size = left_is c valid acc parents tree args t size

pub returns-clause-reply : goal.returns-clause-reply
returns-clause-reply s c parents args t valid acc tree size = reply_is c valid acc parents tree args t size
