use Rattle.tl_syntax.specs.Declarations.{field}
use Rattle.tl_syntax.proofs.parser.Parser.field.Goals as goal

pub returns : goal.returns
returns c = field c.in_ok-at.ensures c.in_ok-name.ensures c.in_ok-at-2.ensures c.in_ok-number.ensures c.in_ok-at-3.ensures
