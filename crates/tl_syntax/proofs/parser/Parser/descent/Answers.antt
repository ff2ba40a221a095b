use Rattle.tl_syntax.specs.Statements.{descends, takes}
use Rattle.tl_syntax.proofs.parser.Parser.descent.Goals as goal

pub returns-in_default : goal.returns-in_default
returns-in_default c = takes c.in_ok-at.ensures c.in_ok-node.ensures c.in_ok-at-2.ensures c.in_ok-from.ensures

pub returns : goal.returns
returns c = descends c.in_ok-at.ensures c.in_ok-node.ensures c.in_ok-at-2.ensures c.in-Some.ensures c.in_ok-number.ensures
