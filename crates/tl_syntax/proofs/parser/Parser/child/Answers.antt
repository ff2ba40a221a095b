use Rattle.tl_syntax.specs.Statements.{child}
use Rattle.tl_syntax.proofs.parser.Parser.child.Goals as goal

pub returns-clause-read : goal.returns-clause-read
returns-clause-read c = child c.in_ok-at.ensures c.in_ok-at-2.ensures c.in_ok-parent.ensures c.in_ok-at-3.ensures c.in_ok-number.ensures c.in_ok-at-4.ensures
