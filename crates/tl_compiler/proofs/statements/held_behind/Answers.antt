use Rattle.tl_compiler.proofs.SetNumbers.{behind_is}
use Rattle.tl_compiler.proofs.statements.held_behind.Goals as goal

pub returns : goal.returns
returns c = behind_is c.outcomes_of.result.after _ c.unwrap_or.result c.outcomes_of.ensures.after c.unwrap_or.ensures
