use Rattle.tl_syntax.specs.Declarations.{constant}
use Rattle.tl_syntax.proofs.parser.Parser.constant.Goals as goal

pub returns : goal.returns
returns c = constant c.in_ok-at.ensures c.in_ok-name.ensures c.in_ok-at-2.ensures c.in_ok-value.ensures c.in_ok-at-3.ensures
