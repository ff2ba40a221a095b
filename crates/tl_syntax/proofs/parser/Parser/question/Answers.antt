use Rattle.tl_syntax.specs.Statements.{condition, lock}
use Rattle.tl_syntax.proofs.parser.Parser.question.Goals as goal

pub returns-in-Some : goal.returns-in-Some
returns-in-Some c = lock c.in-Some.ensures c.in_ok-place.ensures

pub returns : goal.returns
returns c = condition c.in_ok-condition.ensures
