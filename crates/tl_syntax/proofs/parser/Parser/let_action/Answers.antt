use Rattle.tl_syntax.specs.Statements.{lets}
use Rattle.tl_syntax.proofs.parser.Parser.let_action.Goals as goal

pub returns : goal.returns
returns c = lets c.in_ok-at.ensures c.in_ok-name.ensures c.in_ok-at-2.ensures c.in_ok-value.ensures
