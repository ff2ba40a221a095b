use Rattle.tl_syntax.specs.Statements.{writes}
use Rattle.tl_syntax.proofs.parser.Parser.named_action.Goals as goal

pub returns-in_ok-others-in-Dot : goal.returns-in_ok-others-in-Dot
returns-in_ok-others-in-Dot c = writes c.in_ok-first-in-Dot.ensures c.in_ok-others-in-Dot.ensures
