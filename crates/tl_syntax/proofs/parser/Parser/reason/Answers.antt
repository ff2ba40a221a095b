use Rattle.tl_syntax.specs.Statements.{no_reason, reason}
use Rattle.tl_syntax.proofs.parser.Parser.reason.Goals as goal

pub returns-in_default : goal.returns-in_default
returns-in_default c = no_reason

pub returns : goal.returns
returns c = reason c.in-Some.ensures c.in_ok-code.ensures
