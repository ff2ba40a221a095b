use Rattle.tl_syntax.specs.Statements.{assigns}
use Rattle.tl_syntax.proofs.parser.Parser.assign.Goals as goal

pub returns : goal.returns
returns c = assigns c.in_ok-name.ensures c.in_ok-change.ensures c.in_ok-value.ensures
