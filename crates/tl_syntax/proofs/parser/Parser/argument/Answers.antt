use Rattle.tl_syntax.specs.Statements.{argument}
use Rattle.tl_syntax.proofs.parser.Parser.argument.Goals as goal

pub returns : goal.returns
returns c = argument c.in_ok-at.ensures c.in_ok-number.ensures c.in_ok-at-2.ensures
