use Rattle.tl_syntax.specs.Declarations.{procedures, parts}
use Rattle.tl_syntax.proofs.parser.Parser.declaration.Goals as goal

pub returns-in_ok-procedure-in_default : goal.returns-in_ok-procedure-in_default
returns-in_ok-procedure-in_default c = procedures c.in_ok-procedure-in_default.ensures

pub returns-in_ok-part-in-Name-PART : goal.returns-in_ok-part-in-Name-PART
returns-in_ok-part-in-Name-PART c = parts c.in_ok-part-in-Name-PART.ensures
