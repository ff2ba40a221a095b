use Rattle.tl_workers.proofs.AllSessions.{asked_by_owner, asked_once}
use Rattle.tl_workers.proofs.laws.each_call_is_asked_for_once.Goals as goal

pub returns-clause-own : goal.returns-clause-own
returns-clause-own c = asked_by_owner

pub returns-clause-all : goal.returns-clause-all
returns-clause-all c = asked_once
