use Rattle.tl_syntax.specs.Statements.{no_name, some_name}
use Rattle.tl_syntax.proofs.parser.Parser.optional_name.Goals as goal

pub returns-in_default : goal.returns-in_default
returns-in_default c = no_name

pub returns : goal.returns
returns c = some_name c.in-Some.ensures c.in_ok-name.ensures c.in_ok-at.ensures
