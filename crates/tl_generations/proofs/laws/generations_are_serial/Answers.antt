use Rattle.tl_generations.proofs.Joined.{all_serial, all_left}
use Rattle.tl_generations.proofs.laws.generations_are_serial.Goals as goal

pub returns-clause-serial : goal.returns-clause-serial
returns-clause-serial c = all_serial

pub returns-clause-left : goal.returns-clause-left
returns-clause-left c = all_left
