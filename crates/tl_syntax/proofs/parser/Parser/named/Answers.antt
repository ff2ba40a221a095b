use Rattle.tl_syntax.specs.Grammar.{named, field}
use Rattle.tl_syntax.proofs.parser.Parser.named.Goals as goal

pub returns-in_default : goal.returns-in_default
returns-in_default c = named c.in_ok-name.ensures

pub returns : goal.returns
returns c = field c.in_ok-name.ensures c.in-Some.ensures c.in_ok-field.ensures
