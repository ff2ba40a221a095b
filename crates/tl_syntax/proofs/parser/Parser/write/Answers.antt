use Rattle.tl_syntax.specs.Statements.{write}
use Rattle.tl_syntax.proofs.parser.Parser.write.Goals as goal

pub returns : goal.returns
returns c = write c.in_ok-node.ensures c.in_ok-at.ensures c.in_ok-field.ensures c.in_ok-change.ensures c.in_ok-value.ensures
