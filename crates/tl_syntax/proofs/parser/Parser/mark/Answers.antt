use Rattle.tl_syntax.specs.Declarations.{no_mark, mark}
use Rattle.tl_syntax.proofs.parser.Parser.mark.Goals as goal

pub returns-in_default : goal.returns-in_default
returns-in_default c = no_mark

pub returns : goal.returns
returns c = mark c.in-Some.ensures
