use Rattle.tl_generations.proofs.Joined.{one_more, one_more_left}
use Rattle.tl_generations.proofs.laws.generations_go_on.Goals as goal

pub returns-clause-next : goal.returns-clause-next
returns-clause-next c = one_more

pub returns-clause-left : goal.returns-clause-left
returns-clause-left c = one_more_left
