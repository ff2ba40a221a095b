use Rattle.tl_syntax.specs.Statements.{heads}
use Rattle.tl_syntax.proofs.parser.Parser.while_head.Goals as goal

pub returns : goal.returns
returns c = heads c.in_ok-condition.ensures c.in_ok-at.ensures c.in_ok-at-2.ensures c.in_ok-count.ensures
