use Rattle.tl_generations.proofs.Joined.{serial_joined, left_joined}
use Rattle.tl_generations.proofs.laws.generations_without_growth.Goals as goal

pub returns-clause-serial : goal.returns-clause-serial
returns-clause-serial c = serial_joined

pub returns-clause-left : goal.returns-clause-left
returns-clause-left c = left_joined
