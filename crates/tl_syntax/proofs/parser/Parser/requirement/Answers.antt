use Rattle.tl_syntax.specs.Statements.{requires}
use Rattle.tl_syntax.proofs.parser.Parser.requirement.Goals as goal

pub returns : goal.returns
returns c = requires c.in_ok-at.ensures c.in_ok-condition.ensures c.in_ok-code.ensures
